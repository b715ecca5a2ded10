pub mod Told
pub mod Upward
pub mod Seen
pub mod SendsHere
pub mod Changed
pub mod Saying
pub mod Before
pub mod SayingLaws
pub mod Marks
pub mod Several
pub mod SeveralLaws
pub mod Waits
pub use Rattle.router_state.specs.Routes
pub use Rattle.router_state.specs.State
pub use Rattle.router_state.specs as RouterState
