mod NearestRates
pub mod Short
