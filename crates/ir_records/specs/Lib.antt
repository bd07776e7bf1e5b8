pub mod Result
pub mod Record
pub mod Kinds
pub mod Fields
pub mod Table
pub mod Serving
pub mod Outcome
pub mod Refusal
