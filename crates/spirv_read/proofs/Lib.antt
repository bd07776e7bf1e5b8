pub mod PutLaws
pub mod StepLaws
pub mod ReadLaws
