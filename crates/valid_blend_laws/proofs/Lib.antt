pub mod ReadLaws
pub mod SameLaws
pub mod FormerLaws
