pub mod Plain
pub mod Refreshes
pub mod Worked
pub mod Roomy
pub mod WorkedRoom
