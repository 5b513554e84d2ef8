-- The definitions that the contracts of this crate cite.
pub mod Entries
pub mod Shelved
pub mod Ledger
pub mod Agreement
pub mod Course
