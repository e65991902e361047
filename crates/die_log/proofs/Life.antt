-- A die's lives: what holds of its logs one after the other.
pub mod Starting
pub mod Reading
pub mod Timing
pub mod Wearing
pub mod Demanding
pub mod Planning
pub mod FewErases
