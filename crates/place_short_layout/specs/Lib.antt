pub mod ShortRows
