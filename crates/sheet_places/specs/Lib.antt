pub mod Places
pub mod Halving
