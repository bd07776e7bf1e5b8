pub mod PassWords
pub mod OtherRuleProof
pub mod StepLaws
