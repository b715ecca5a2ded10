pub mod RowLemmas
pub mod Starts
pub mod ChargeLaws
pub mod WithinLaws
