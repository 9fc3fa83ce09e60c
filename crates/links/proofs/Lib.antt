pub mod Chaining
pub mod Following
pub mod Listing
pub mod Found
pub mod Local
pub mod Accepted
