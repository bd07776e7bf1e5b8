pub mod Blend
pub mod Serving
