pub mod PlaceLaws
pub mod HalvingLaws
