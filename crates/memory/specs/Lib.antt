pub mod Layout
pub mod View
pub mod Changes
pub mod Facts
