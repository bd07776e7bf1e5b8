pub mod MemberLaws
