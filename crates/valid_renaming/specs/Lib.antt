pub mod Renaming
pub mod Calls
