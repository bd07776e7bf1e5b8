pub mod TypesRead
pub mod Records
