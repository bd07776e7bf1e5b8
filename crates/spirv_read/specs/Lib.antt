pub mod Section
pub mod Read
pub mod Serving
