pub mod Facts
pub mod NodeConfig
pub mod Known
pub mod Offers
pub mod Requests
pub mod Books
pub mod Inputs
pub mod Waiting
pub mod Paths
pub mod Asking
pub mod Errors
pub mod Confirming
pub mod Calls
pub mod Act
pub mod Forgetting
pub mod Sends
pub mod Rule
pub mod Flags
pub mod Adverts
pub mod Fronts
pub mod Bounds
pub mod Steps
pub use Rattle.style_rules.specs.CutLaws
pub use Rattle.style_rules.specs.Limits
pub use Rattle.style_rules.specs.Lines
pub use Rattle.style_rules.specs.Merge
pub use Rattle.style_rules.specs.PartLaws
pub use Rattle.style_rules.specs.Parts
pub use Rattle.style_rules.specs.Targets
pub use Rattle.style_rules.specs.Toward
pub use Rattle.style_rules.specs.FlowOrder
pub use Rattle.adspec_path.specs as AdspecPath
pub use Rattle.rsvp_messages.specs as RsvpMessages
pub use Rattle.rsvp_messages.specs.RsvpObjects
pub use Rattle.style_rules.specs as StyleRules
pub use Rattle.rsvp_base.specs as RsvpBase
