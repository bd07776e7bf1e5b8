pub mod WordLaws
mod PartLaws
