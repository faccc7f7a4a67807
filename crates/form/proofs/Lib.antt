pub mod HeaderChecks
pub mod SheetChecks
pub mod SheetLoop
pub mod Accepted
