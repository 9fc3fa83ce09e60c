pub mod Parts
pub mod Agreeing
