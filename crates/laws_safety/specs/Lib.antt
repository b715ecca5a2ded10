pub mod InRuns
pub mod Books
pub mod Refusals
pub mod Blockades
pub mod Confirmations
