pub mod Grammar
pub mod Serving
