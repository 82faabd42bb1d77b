pub mod Trees
pub mod Places
pub mod Answers
pub mod Stages
