pub mod Module
pub mod Decorations
pub mod Serving
