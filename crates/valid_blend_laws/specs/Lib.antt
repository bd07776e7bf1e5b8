pub mod SameRows
pub mod Former
