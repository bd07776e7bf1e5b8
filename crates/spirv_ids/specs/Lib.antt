pub mod Sorts
pub mod Ids
pub mod Places
