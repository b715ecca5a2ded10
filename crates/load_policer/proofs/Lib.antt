pub mod Verdicts
pub mod Levels
pub mod Bounds
pub mod LineLaws
pub mod Leading
pub mod Counting
pub mod Fed
pub mod Finishing
pub mod Ended
pub mod Coming
pub mod StreamBound
mod Short
