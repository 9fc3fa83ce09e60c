pub mod Sharing
pub mod Finding
pub mod Passing
pub mod Limits
pub mod Entering
pub mod Looping
pub mod Ending
pub mod Apart
