pub mod Shown
pub mod Value
pub mod Before
