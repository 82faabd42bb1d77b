pub mod Plans
pub mod Rooms
pub mod Redexes
pub mod Ordered
