pub mod Bits
pub mod Words
pub mod Meets
pub mod Digits
