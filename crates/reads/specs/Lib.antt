pub mod Reads
pub mod Agree
