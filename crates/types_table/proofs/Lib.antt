pub mod OnePass
pub mod Questions
pub mod Table
pub mod Fields
