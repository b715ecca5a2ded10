mod Digits
mod ListRanges
pub mod FoundFaults
pub mod Happening
pub mod LineForms
pub mod Lifetimes
pub mod Pairs
pub mod Scripts
mod Formed
pub mod FormLaws
pub mod SaidAs
mod Misread
mod Advising
mod Asked
mod FewWords
mod OutOf
mod Short
