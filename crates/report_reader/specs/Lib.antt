pub mod Reading
pub mod Sections
pub mod Found
pub mod Words
