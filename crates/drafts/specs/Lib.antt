pub mod Mem
pub mod Wrote
pub mod Steps
