pub mod Hash
pub mod Lines
pub mod Texts
pub mod Words
