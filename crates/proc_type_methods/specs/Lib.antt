pub mod TypeMethods
pub mod Serving
