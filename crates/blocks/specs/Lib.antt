pub mod Laws
pub mod Known
