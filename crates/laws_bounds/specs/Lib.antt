pub mod FactLaws
pub mod RuleLaws
pub mod SendLaws
pub mod OrderLaws
pub mod WishLaws
pub mod FlagLaws
pub mod MessageLaws
pub mod ErrorLaws
pub mod AskLaws
pub mod CallLaws
pub mod Frames
pub mod Sources
pub use Rattle.router_rules.specs as RouterRules
pub use Rattle.router_rules.specs.RsvpMessages
pub mod BoundLaws
pub mod ProperLaws
pub mod CountLaws
