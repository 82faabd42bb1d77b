pub mod Marked
pub mod Entries
pub mod Usable
pub mod Looked
