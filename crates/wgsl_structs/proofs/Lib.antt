pub mod StructLaws
