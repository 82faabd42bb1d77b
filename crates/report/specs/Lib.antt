pub mod Supplied
pub mod Room
