pub mod Kept
pub mod KeptLaws
pub mod Changes
