pub mod Cursors
pub mod Layouts
pub mod Netpbm
