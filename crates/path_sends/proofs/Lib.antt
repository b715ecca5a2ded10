mod Telling
pub mod Renewed
