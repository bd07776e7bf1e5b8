pub mod TypeAlignment
pub mod Serving
