pub mod Playing
pub mod Growing
pub mod Endings
