pub mod TypeLayout
pub mod Serving
