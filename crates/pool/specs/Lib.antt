pub mod Pools
pub mod Words
pub mod Sides
pub mod Lawfulness
