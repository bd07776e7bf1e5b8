pub mod Words
pub mod Number
pub mod Stray
