-- The calculus: properties, types, terms, reduction and typing, each built on those before it; then what compares
-- rules.
pub mod Security
pub mod Groups
pub mod Types
pub mod Subtyping
pub mod Common
pub mod Terms
pub mod Numbers
pub mod Reduction
pub mod Runs
pub mod Stuck
pub mod Typing
pub mod Relabelling
pub mod Callers
pub mod Creators
pub mod Metatheory
