pub mod PassCalls
pub mod OtherRule
