pub mod Spots
pub mod Painting
pub mod Drafts
