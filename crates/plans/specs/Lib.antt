pub mod Limits
pub mod Views
pub mod Outlines
pub mod Directories
pub mod Blocks
pub mod Plans
