pub mod TypeLayoutLaws
pub mod AcceptedParts
