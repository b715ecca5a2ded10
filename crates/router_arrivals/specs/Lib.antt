pub mod Asked
pub mod LeftOver
pub mod Taken
pub mod Coming
pub mod Arriving
pub mod Styled
