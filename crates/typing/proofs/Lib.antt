pub mod Apart
pub mod Below
pub mod Steps
pub mod Accepted
pub mod Outcome
pub mod Course
