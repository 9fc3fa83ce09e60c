pub mod Pixels
pub mod Sane
pub mod Depths
pub mod Soundness
pub mod Reading
pub mod Reads
