pub mod Types
pub mod Text
