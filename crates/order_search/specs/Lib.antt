pub mod Fitting
pub mod FirstOrder
