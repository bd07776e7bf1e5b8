pub mod BoundsLaws
pub mod BoundsSame
pub mod KindLaws
