pub mod Closing
pub mod Reaching
pub mod Reducibility
pub mod Ending
pub mod Termination
