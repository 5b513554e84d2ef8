pub mod Nodes
pub mod Standing
