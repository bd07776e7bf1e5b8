pub mod Width
pub mod Serving
