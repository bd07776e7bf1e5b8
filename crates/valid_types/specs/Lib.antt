pub mod ValidateType
pub mod Serving
