pub mod Tops
pub mod Moves
pub mod Shown
pub mod Uniques
pub mod Refers
mod Shapes
mod Readings
mod Fronts
mod Spelt
pub mod Decodes
mod Rounds
mod Fills
mod Builds
mod Steps
mod Handed
pub mod Gives
mod Puts
