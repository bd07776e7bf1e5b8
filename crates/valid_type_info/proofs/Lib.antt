pub mod VerdictLaws
pub mod DistanceLaws
