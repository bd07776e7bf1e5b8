pub mod Scalars
pub mod Shapes
pub mod Extents
