pub mod Copies
pub mod Lists
pub mod Puts
pub mod MadeTables
pub use Rattle.network_model.proofs.Stepping
pub mod InUse
