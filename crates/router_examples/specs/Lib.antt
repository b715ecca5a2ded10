pub mod ThreeRouters
pub mod PathRows
pub mod ResvRows
pub mod EdgeRows
pub mod BoundRows
pub use Rattle.router_rules.specs as RouterRules
pub use Rattle.router_rules.specs.RsvpMessages
