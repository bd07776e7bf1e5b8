pub mod WidthLaws
