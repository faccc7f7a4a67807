pub mod Sizes
pub mod Said
pub mod Laid
pub mod Places
pub mod Written
