pub mod Order
pub mod Starts
pub mod Splices
pub mod Ends
pub mod Moves
