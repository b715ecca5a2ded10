pub mod Json
pub mod EventTexts
