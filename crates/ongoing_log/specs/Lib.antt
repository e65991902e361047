pub mod PastLives
pub mod Ongoing
pub mod Ahead
