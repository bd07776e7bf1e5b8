pub mod LeafLaws
pub mod TreeLaws
pub mod StructLaws
pub mod DenotedProof
pub mod Worked
