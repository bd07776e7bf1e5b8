pub mod SearchLaws
pub mod OrderLaws
pub mod NumberLaws
pub mod SkipLaws
