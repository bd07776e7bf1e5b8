pub mod Bytes
pub mod Answers
pub mod Written
