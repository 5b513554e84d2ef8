-- The definitions that the contracts of this crate cite.
pub mod Faults
pub mod Integer
pub mod Laws
pub mod Number
pub mod Reading
pub mod Stack
pub mod Writing
