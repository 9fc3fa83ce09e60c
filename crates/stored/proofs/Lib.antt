pub mod Colours
pub mod Pixel
pub mod Turned
pub mod Accepted
pub mod Within
pub mod Covering
pub mod Local
pub mod Cases
