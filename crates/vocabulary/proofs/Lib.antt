pub mod Masks
pub mod Origins
pub mod Refusals
