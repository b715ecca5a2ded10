pub mod Requests
pub mod Worked
