pub mod Short
pub mod SamePlaces
pub mod Serving
