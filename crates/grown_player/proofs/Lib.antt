pub mod Played
pub mod Grown
pub mod Counted
pub mod Summed
pub mod Ended
pub mod Shown
