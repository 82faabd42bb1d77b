pub mod Kinds
pub mod Place
pub mod Labels
pub mod Operands
pub mod Binders
pub mod Weight
pub mod Said
pub mod Numbers
