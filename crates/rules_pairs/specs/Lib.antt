pub mod Bytes
pub mod Keys
pub mod Said
pub mod Facts
pub mod Lists
pub mod Tracing
pub mod Known
pub mod States
