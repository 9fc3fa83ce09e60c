pub mod Below
pub mod Located
pub mod Samples
pub mod Colours
pub mod Drafted
pub mod Asking
