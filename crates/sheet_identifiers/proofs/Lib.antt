pub mod IdentifierLaws
pub mod DecimalLaws
pub mod AloneLaws
