pub mod LentRows
pub mod Layouter
pub mod Serving
