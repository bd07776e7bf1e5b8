pub mod StartLaws
pub mod RecordRowLaws
