pub mod InstructionLaws
pub mod BoundLaws
