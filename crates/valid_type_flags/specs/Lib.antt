pub mod TypeFlags
pub mod Serving
