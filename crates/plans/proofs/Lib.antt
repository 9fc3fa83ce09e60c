pub mod Outlines
pub mod Views
