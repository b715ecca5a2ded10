pub mod Passes
pub mod Calls
pub mod Reserving
pub mod Worked
