pub mod MemberRules
pub mod Serving
