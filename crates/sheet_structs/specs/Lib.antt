pub mod Forms
pub mod Facts
pub mod Page
pub mod Structs
pub mod Text
