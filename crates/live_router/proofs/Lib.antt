pub mod Shifting
pub mod Doing
mod Living
mod Routes
mod Opened
