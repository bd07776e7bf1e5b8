pub mod VerdictLaws
pub mod SlotLaws
