pub mod TextAnswer
pub mod Text
