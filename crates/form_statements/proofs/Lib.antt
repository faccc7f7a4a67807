pub mod RangeCounts
pub mod StatementsAround
pub mod ClosedExtents
pub mod ExtentStacks
pub mod StatementLoop
pub mod Grouping
pub mod HolderKinds
pub mod QuickStatements
