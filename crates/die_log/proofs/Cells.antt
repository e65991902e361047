-- One act of a die keeps its cells sound: over plain variables, with no log.
pub mod Acts
pub mod Steps
pub mod Valid
pub mod FreePages
pub mod Collections
