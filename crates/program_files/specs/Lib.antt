pub mod Serving
pub mod Sources
