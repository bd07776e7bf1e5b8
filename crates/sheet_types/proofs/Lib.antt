pub mod TypeLaws
pub mod TextLaws
