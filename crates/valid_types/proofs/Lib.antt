pub mod RowParts
pub mod StructFlags
pub mod TypeRowLaws
pub mod CapabilityLaws
pub mod JudgeLaws
pub mod CommonLaws
