pub mod Listing
pub mod Stepping
pub mod Machines
pub mod Quiet
pub mod Changing
pub mod Worked
pub mod NodeLocals
pub use Rattle.router_examples.proofs.RouterRules
