pub mod FlowTable
pub mod Kinds
pub mod Units
pub mod Proper
pub use Rattle.rsvp_objects.specs as RsvpObjects
