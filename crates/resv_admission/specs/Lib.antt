pub mod Kept
pub mod Renewed
pub mod Placing
pub mod Dying
pub mod Units
pub mod Order
pub mod Standing
pub use Rattle.router_state.specs.Forgotten
pub use Rattle.router_state.specs.State
pub use Rattle.router_state.specs as RouterState
