pub mod LeafLaws
pub mod StepLaws
