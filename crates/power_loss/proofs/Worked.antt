-- Small histories, computed: what a mount sees and finds.
pub mod Plans
pub mod Erased
mod TrimmedPage
mod OlderWrite
mod Undone
mod TornWrite
mod NoFreeBlock
