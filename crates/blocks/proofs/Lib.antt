pub mod Numbers
pub mod Directory
pub mod Fields
pub mod Bytes
pub mod Chains
pub mod Places
pub mod Known
