pub mod Text
pub mod Slots
