pub mod Runs
pub mod Places
pub mod Serving
