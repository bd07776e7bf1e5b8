pub mod Types
pub mod Serving
