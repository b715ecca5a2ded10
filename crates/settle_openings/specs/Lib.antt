pub mod Opening
pub mod Fresh
pub mod Worked
pub mod Waves
