mod Multiples
mod Repeating
