pub mod TableRule
pub mod PlainLaws
