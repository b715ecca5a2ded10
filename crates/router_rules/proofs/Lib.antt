pub mod Fronting
pub mod Bounding
pub use Rattle.style_rules.proofs.Merges
pub use Rattle.style_rules.proofs.Room
pub use Rattle.style_rules.proofs.Towards
pub use Rattle.style_rules.proofs.Told
pub use Rattle.style_rules.proofs.Lattice
pub use Rattle.style_rules.proofs as StyleRules
pub use Rattle.rsvp_base.proofs as RsvpBase
pub use Rattle.adspec_path.proofs as AdspecPath
