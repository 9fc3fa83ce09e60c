pub mod Frames
pub mod Places
pub mod Compose
