pub mod MemberLaws
pub mod MemberSame
pub mod RuleLaws
pub mod KindLaws
pub mod NewerLaws
