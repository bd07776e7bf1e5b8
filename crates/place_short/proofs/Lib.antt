pub mod RecordParts
pub mod ShortLaws
pub mod OutcomeLaws
pub mod SamePlacesProof
pub mod RefusedLaws
