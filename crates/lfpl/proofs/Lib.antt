pub mod SameTypes
pub mod Typed
pub mod Judged
pub mod Renamed
pub mod Sharing
mod Names
mod Numbered
mod Contracted
mod Ruled
mod Copied
pub mod Agree
mod Example
mod Shapes
pub mod Admitted
