pub mod Numbers
pub mod Export
