pub mod DescentLaws
pub mod ByteLaws
pub mod LookupLaws
