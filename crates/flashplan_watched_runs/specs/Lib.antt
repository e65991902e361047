pub mod Ends
pub mod Failing
pub mod Figures
pub mod ReportText
pub mod Runs
pub mod SlotsCarried
pub mod Wear
pub mod WearText
