pub mod MemberLaws
pub mod NumberLaws
pub mod AlignmentLaws
