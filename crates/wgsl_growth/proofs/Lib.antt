pub mod ReadLaws
pub mod InductionLaws
pub mod PlacingLaws
pub mod RowLaws
pub mod GrowthLaws
pub mod GrowthProof
