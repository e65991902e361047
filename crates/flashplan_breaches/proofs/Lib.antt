mod Breaking
mod Trying
