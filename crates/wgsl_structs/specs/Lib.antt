pub mod Structs
pub mod Serving
