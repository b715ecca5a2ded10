pub mod RateBelow
pub mod Composing
pub mod Advertisement
pub mod Same
