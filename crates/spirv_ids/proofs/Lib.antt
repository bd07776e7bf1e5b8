pub mod PlaceLaws
pub mod CountLaws
pub mod FirstLaws
