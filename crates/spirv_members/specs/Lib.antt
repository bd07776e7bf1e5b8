pub mod Members
pub mod Serving
