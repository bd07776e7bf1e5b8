pub mod JudgedLaws
pub mod TextLaws
pub mod WordLaws
pub mod FileLaws
