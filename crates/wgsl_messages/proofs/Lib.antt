pub mod PositionLaws
pub mod SayLaws
