pub mod Parts
pub mod Walk
pub mod Serving
