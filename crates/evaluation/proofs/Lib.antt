pub mod Buffers
pub mod Rooms
pub mod Gathered
pub mod Answers
