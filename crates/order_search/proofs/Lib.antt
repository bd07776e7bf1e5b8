pub mod FittingLaws
pub mod FirstOrderProof
