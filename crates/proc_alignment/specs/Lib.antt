pub mod Alignment
