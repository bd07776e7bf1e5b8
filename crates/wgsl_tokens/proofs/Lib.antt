pub mod TokenLaws
pub mod GapLaws
pub mod WordLaws
