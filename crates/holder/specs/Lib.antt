pub mod Worlds
pub mod Told
pub mod Soundness
pub mod Lines
