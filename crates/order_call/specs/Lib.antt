pub mod Answer
pub mod Call
