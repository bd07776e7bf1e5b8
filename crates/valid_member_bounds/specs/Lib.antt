pub mod MemberBounds
