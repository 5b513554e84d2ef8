pub mod Coding
pub mod Masks
pub mod Ruling
pub mod Scoping
