pub mod Ledger
pub mod Quiet
