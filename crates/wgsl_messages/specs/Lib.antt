pub mod Position
pub mod Message
pub mod Says
