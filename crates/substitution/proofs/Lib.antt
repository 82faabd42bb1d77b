pub mod Nodes
pub mod Reading
pub mod Counting
pub mod Writing
