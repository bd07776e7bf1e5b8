pub mod Bytes
pub mod Judged
pub mod Answers
