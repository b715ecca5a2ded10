pub mod Walls
pub mod Touching
pub mod Behind
