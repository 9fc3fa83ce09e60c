pub mod Rules
pub mod Lent
pub mod Power
pub mod Promises
pub mod Looking
