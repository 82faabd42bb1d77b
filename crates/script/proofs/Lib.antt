pub mod Rooms
pub mod Fields
