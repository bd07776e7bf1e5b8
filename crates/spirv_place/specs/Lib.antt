pub mod ModulePlace
pub mod SpirvTerm3
