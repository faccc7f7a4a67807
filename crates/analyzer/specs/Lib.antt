pub mod Said
pub mod Run
pub mod Functions
