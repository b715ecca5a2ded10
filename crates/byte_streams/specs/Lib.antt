pub mod Devices
pub mod Faults
pub mod Reading
pub mod Streams
pub mod Lines
pub mod Runs
