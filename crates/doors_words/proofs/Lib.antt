pub mod StoreLaws
pub mod ToldLaws
