pub mod Answered
pub mod Vias
pub mod ByKey
pub mod Walked
