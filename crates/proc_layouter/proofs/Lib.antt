pub mod LayoutLaws
pub mod LayoutAccepted
pub mod LayoutPower
pub mod TableSame
pub mod TableMap
