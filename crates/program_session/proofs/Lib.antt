pub mod LineLaws
pub mod TranscriptLaws
pub mod AnswerLaws
pub mod ReadLaws
pub mod SessionLaws
