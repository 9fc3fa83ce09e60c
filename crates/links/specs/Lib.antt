pub mod Links
pub mod Chain
