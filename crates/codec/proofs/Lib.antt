pub mod Forms
pub mod Numbers
pub mod Spellings
pub mod Takings
