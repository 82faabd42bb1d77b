pub mod Gap
pub mod Focus
pub mod Contracted
pub mod Moves
pub mod Refocusing
