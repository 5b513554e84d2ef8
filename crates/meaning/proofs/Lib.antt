mod Agrees
pub mod Ends
mod Least
pub mod Charges
pub mod Acts
pub mod Placing
pub mod Passing
pub mod Kept
pub mod Reached
mod Worked
