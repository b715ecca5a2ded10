pub mod Onces
pub mod Overheads
pub mod LastLines
pub mod Runs
pub mod LastRound
pub mod Plain
pub mod Worked
