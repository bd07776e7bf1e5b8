pub mod MaskLaws
pub mod RangeLaws
pub mod PartLaws
pub mod SlotBits
