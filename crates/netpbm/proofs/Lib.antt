pub mod Files
pub mod Octets
pub mod Windows
