pub mod Blockades
pub mod Touched
