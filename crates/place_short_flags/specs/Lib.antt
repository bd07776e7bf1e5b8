pub mod ShortFlags
pub mod Serving
