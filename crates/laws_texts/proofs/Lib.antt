pub mod Bytes
pub mod Lines
pub mod Heads
pub mod Reports
pub mod Names
pub mod Told
