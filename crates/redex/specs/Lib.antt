pub mod Contexts
pub mod Fates
pub mod Found
