pub mod Types
pub mod Entries
pub mod Fields
