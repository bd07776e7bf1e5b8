pub mod PutLaws
pub mod TextLaws
pub mod ChunkLaws
pub mod SendsLaws
