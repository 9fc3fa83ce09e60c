pub mod Picture
pub mod Views
pub mod Layers
pub mod Soundness
pub mod Turns
pub mod Kept
