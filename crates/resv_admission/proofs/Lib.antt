pub mod Entries
pub mod Renewals
pub mod Moves
pub mod Tearing
pub mod Deaths
pub mod Room
pub mod Stands
pub mod Steps
pub mod Fits
pub mod Order
pub mod Standing
pub use Rattle.laws_bounds.proofs.Leaving
pub use Rattle.router_state.proofs as RouterState
