mod AllKeep
mod Fronts
