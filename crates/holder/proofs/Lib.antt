pub mod Calls
pub mod Sizes
pub mod Opens
pub mod Carries
pub mod Lines
