pub mod PartTexts
pub mod MessageText
pub mod RefusalText
pub mod Readings
pub mod ShowLines
pub mod Stops
pub mod Laws
pub mod ShowAdvice
