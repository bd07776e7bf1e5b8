pub mod Flags
pub mod Serving
