-- What stands of an exact log: its jobs, its cells and its running collections.
pub mod CellsFromAccounts
pub mod OneMoreEntry
pub mod AfterNoAct
pub mod AfterAct
pub mod HeadActs
pub mod EveryLog
