pub mod PartLaws
pub mod RaisedLaws
