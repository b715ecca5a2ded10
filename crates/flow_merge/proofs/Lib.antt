pub mod Peaks
pub mod Lattice
pub mod Told
