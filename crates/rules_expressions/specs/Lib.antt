pub mod Facts
pub mod Operands
pub mod Rules
pub mod Steps
