pub mod Cutting
pub mod Largest
pub mod Proper
pub mod Composed
pub mod Same
