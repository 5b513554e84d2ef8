pub mod Expressed
pub mod Givings
pub mod Grouped
pub mod Signed
pub mod Tabled
pub mod Typed
