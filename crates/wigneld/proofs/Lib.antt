pub mod Reports
pub mod Previews
