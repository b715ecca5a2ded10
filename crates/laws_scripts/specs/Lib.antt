pub mod Networks
pub mod Scripts
pub mod Asked
pub mod Small
