pub mod Codes
pub mod Rules
pub mod Scopes
