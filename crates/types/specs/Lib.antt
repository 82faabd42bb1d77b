pub mod Held
pub mod Kinds
