-- The definitions that the contracts of this crate cite.
pub mod Admitting
pub mod Judging
pub mod Over
pub mod Notes
