pub mod Instruction
pub mod Serving
