pub mod TypeInfo
pub mod Verdict
pub mod Serving
