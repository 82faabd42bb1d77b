pub mod Formers
pub mod Numbered
pub mod Parts
pub mod Counting
