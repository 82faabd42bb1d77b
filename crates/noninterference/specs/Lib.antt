-- What values tell an observer: by types, of checked scripts, and by labels, of any.
pub mod Places
pub mod Noninterference
pub mod Hidden
pub mod Observers
pub mod Pairs
