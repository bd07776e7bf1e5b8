pub mod BitLaws
pub mod SizeLaws
