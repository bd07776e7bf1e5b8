pub mod Term3
pub mod Calls
