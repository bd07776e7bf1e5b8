pub mod Place
pub mod Serving
