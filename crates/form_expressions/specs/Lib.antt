pub mod Groups
pub mod Required
pub mod Operands
pub mod QuickTables
