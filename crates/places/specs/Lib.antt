pub mod Places
pub mod Lowest
pub mod Search
