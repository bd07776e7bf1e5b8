pub mod Holder
pub mod Leaf
