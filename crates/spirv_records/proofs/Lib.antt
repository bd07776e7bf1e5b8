pub mod MadeLaws
pub mod HeldLaws
pub mod RecordedLaws
pub mod NumberLaws
pub mod OrderLaws
pub mod RecordsProof
