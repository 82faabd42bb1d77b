pub mod Names
pub mod Operands
pub mod Walks
pub mod Turns
pub mod Whole
pub mod Asked
pub mod NamesOver
