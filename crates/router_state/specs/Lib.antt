pub mod Routes
pub mod State
pub mod Changes
pub mod Forgotten
pub mod Waited
pub mod StateLaws
pub mod Whole
pub use Rattle.laws_bounds.specs.FactLaws
pub use Rattle.path_state.specs as PathState
pub use Rattle.resv_state.specs as ResvState
pub use Rattle.laws_bounds.specs.RouterRules
pub use Rattle.laws_bounds.specs.RsvpMessages
pub use Rattle.resv_state.specs.StyleRules
