pub mod CountLaws
pub mod StepsTo
pub mod LeafLaws
pub mod SumLaws
pub mod NarrowLaws
pub mod LeavesProof
pub mod Examples
