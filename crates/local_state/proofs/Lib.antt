pub mod Runs
pub mod Ticking
pub mod Taken
pub mod Held
pub mod Marks
pub mod Owned
