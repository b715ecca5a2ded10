pub mod Ended
pub mod Runs
pub mod Firsts
pub mod Coming
pub mod Spoken
pub mod Adding
pub mod Told
mod Nets
pub mod Routes
pub mod Ran
pub mod Shown
pub mod Free
mod Advising
mod Crowded
