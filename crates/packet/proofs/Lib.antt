pub mod Values
pub mod Passing
pub mod Apart
pub mod Sizes
pub mod Course
pub mod Started
pub mod Pages
pub mod Issued
