pub mod Reports
pub mod Checks
pub mod Runs
