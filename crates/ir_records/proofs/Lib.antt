pub mod ResultLaws
pub mod TableLaws
pub mod RecordLaws
pub mod KindLaws
pub mod RefusalLaws
