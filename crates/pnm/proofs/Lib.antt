pub mod Cursors
pub mod Decimals
pub mod Heads
pub mod Samples
