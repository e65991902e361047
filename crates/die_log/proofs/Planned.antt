-- Under a plan with times nothing is late.
pub mod Entered
pub mod Carrying
pub mod Running
pub mod Windows
pub mod Rooms
pub mod InTime
