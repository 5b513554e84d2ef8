mod Framing
mod Parts
mod Landing
mod Settled
mod Turning
mod Beginning
mod Carrying
mod Givings
mod Loadings
mod Startings
pub mod Finishings
pub mod Remaining
