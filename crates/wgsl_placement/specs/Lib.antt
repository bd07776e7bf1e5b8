pub mod Placement
pub mod Serving
