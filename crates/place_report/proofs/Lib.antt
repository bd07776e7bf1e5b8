pub mod MemberBytes
pub mod LeafBytesLaws
pub mod PassLaws
pub mod FirstPass
pub mod SecondPass
pub mod FillLaws
pub mod ReportLaws
