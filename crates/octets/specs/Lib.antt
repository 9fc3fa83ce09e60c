pub mod Digits
pub mod Rows
pub mod Numbers
pub mod Sectors
pub mod Writes
