pub mod Tags
pub mod Geometry
pub mod Pages
pub mod Segments
pub mod Opening
pub mod Extents
