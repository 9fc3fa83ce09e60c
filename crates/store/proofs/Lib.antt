pub mod Lent
pub mod Changes
pub mod Power
pub mod Looks
