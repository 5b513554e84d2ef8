pub mod Places
pub mod Effects
pub mod Settling
