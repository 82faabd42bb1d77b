pub mod Fields
pub mod Scope
pub mod Check
