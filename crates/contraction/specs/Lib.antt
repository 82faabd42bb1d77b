pub mod Plans
pub mod Order
