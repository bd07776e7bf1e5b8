pub mod PowerLaws
pub mod RoundLaws
pub mod Finite
pub mod MaskLaws
