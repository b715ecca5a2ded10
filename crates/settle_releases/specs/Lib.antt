pub mod Releases
pub mod Worked
