pub mod Packed
pub mod Tells
pub mod Held
