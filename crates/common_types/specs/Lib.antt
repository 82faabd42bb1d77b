pub mod Directions
pub mod Walks
