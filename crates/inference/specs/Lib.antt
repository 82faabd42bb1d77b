pub mod Kinds
pub mod Operands
pub mod Memory
pub mod Stages
pub mod Sides
