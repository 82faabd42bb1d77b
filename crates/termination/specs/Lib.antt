-- Which scripts always finish.
pub mod Profile
pub mod Termination
