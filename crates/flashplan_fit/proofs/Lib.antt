mod Zips
mod Tables
mod Paces
