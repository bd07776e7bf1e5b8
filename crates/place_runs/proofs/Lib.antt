pub mod RunLaws
pub mod PlacesLaws
