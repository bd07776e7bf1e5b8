pub mod Commands
pub mod Serving
