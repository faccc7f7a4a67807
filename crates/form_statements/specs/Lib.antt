pub mod Groups
pub mod Operands
pub mod Extents
pub mod Context
pub mod Quick
