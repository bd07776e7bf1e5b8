pub mod WalkLaws
pub mod SlotLaws
pub mod MeasuredLaws
pub mod PartsLaws
