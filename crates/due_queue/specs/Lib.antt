pub mod Queue
pub mod Pairs
pub mod Heaps
pub mod Keys
