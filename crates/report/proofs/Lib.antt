pub mod SheetBytes
pub mod Texts
