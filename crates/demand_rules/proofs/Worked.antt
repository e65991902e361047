-- A small plan with bursts and events that keep it, computed.
pub mod Bursting
