-- The definitions that the contracts of this crate cite.
pub mod Layout
pub mod Decoding
pub mod Scanning
pub mod Kinds
pub mod Spelling
pub mod Building
pub mod Walking
pub mod WalkLaws
pub mod Releasing
pub mod Laws
