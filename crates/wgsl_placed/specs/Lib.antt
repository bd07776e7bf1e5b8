pub mod Denoted
