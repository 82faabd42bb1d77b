pub mod Shapes
pub mod Front
pub mod KindLaws
pub mod Regions
pub mod Rules
pub mod Names
