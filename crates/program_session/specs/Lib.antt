pub mod Transcript
pub mod Serving
