pub mod Groups
pub mod Layout
