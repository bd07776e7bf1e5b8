pub mod Answer
pub mod Slots
pub mod Serving
