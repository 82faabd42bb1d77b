pub mod Marked
pub mod Seen
