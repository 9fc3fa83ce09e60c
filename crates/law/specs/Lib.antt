pub mod Slate
pub mod Book
pub mod Run
