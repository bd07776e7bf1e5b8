pub mod Last
pub mod Text
