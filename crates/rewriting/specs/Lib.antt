pub mod Caller
pub mod HandsOver
pub mod Widened
