pub mod SearchLaws
pub mod StringLaws
pub mod PlaceLaws
pub mod TableLaws
pub mod WalkLaws
pub mod NameLaws
