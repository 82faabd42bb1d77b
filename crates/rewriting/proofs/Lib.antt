pub mod SetByte
pub mod Callers
pub mod Widened
pub mod Asked
