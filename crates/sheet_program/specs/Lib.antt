pub mod Printed
pub mod Options
pub mod Stop
