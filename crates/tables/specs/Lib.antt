-- The definitions that the contracts of this crate cite.
pub mod Listed
pub mod Inner
pub mod Read
