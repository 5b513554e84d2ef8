pub mod Enacting
pub mod Running
pub mod Stepping
pub mod Calling
