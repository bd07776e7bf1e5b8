pub mod Immediates
pub mod Serving
