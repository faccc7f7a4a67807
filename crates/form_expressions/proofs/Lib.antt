pub mod KindTables
pub mod Grouping
pub mod QuickRecords
pub mod QuickGuards
pub mod QuickRows
