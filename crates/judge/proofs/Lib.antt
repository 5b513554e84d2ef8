pub mod Bodied
pub mod Noting
pub mod Passing
pub mod Standing
pub mod Verdicts
