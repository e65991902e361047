mod ChangesSoFar
mod Holding
mod OneAlpha
mod OwnDies
mod Rows
mod Steps
