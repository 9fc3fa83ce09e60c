pub mod Accepting
pub mod Decoding
pub mod Scanning
pub mod Counting
