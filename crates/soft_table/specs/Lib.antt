pub mod Links
pub mod Cells
pub mod Wheel
pub mod Lists
pub mod Ring
pub mod Facts
pub mod Index
pub mod Walks
