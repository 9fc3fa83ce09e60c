pub mod Shifts
pub mod Entry
pub mod Entries
pub mod Outer
pub mod Directory
