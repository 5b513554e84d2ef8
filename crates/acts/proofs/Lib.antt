pub mod Lying
mod Settled
mod Building
mod Choosing
mod Keeping
pub mod InPlace
