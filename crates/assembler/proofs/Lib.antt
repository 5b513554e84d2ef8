pub mod Headed
pub mod Makes
pub mod Stood
