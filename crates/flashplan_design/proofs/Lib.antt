mod Changing
mod Dividing
mod DieCommons
mod Multiples
mod Quotients
mod Scaling
mod Tries
mod Slowing
