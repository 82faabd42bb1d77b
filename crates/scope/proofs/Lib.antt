pub mod Scans
pub mod Walks
