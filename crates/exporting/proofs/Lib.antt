pub mod Nodes
pub mod Writing
pub mod Whole
