pub mod Shown
mod Short
