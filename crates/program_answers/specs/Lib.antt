pub mod Answered
pub mod Serving
