pub mod Struct
