pub mod Spreading
pub mod Pushing
pub mod Growing
pub mod Counting
pub mod Carrying
pub mod Marking
pub mod Reading
