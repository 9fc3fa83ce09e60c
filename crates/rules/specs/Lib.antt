pub mod Rules
pub mod Local
