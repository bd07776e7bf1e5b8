pub mod LineLaws
pub mod Examples
