pub mod ChooseLaws
pub mod PassLaws
pub mod CallLaws
pub mod Examples
