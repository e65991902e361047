pub mod FullDies
