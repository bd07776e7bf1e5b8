pub mod Width
pub mod Text
