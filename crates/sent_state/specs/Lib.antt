pub mod Lanes
pub mod Listed
