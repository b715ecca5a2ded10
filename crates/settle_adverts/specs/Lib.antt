pub mod Ways
pub mod Adverts
pub mod Demanded
pub mod Worked
