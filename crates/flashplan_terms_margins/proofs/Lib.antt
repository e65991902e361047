mod Alike
mod Capped
mod Lines
