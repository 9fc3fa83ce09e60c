pub mod Fielding
pub mod Needing
pub mod Deciding
pub mod Meeting
pub mod Sharing
pub mod Staying
pub mod Locality
