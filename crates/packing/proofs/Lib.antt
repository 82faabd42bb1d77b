pub mod Unpacked
pub mod Bounds
pub mod Steps
pub mod Lists
pub mod Sizes
pub mod Exported
pub mod Held
