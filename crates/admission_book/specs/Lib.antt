pub mod EntryKeys
pub mod Book
pub mod Charges
pub mod Within
pub mod Rows
