pub mod Asked
pub mod Window
