pub mod AlignmentLaws
pub mod AcceptedAlignment
pub mod AlignmentPower
