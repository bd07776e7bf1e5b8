pub mod Arena
pub mod UniformRules
pub mod Serving
