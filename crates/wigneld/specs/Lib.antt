pub mod Exported
