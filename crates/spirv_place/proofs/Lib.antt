pub mod StepLaws
pub mod WalkLaws
pub mod ColumnLaws
pub mod SpirvTerm3Proof
pub mod Instance
