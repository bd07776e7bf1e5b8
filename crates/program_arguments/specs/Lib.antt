pub mod Arguments
pub mod Serving
