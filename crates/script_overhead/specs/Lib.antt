pub mod Plain
pub mod Roomy
pub mod Worked
