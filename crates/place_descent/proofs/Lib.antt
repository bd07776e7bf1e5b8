pub mod WalkLaws
pub mod LoopLaws
