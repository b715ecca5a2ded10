pub mod Framing
pub mod Learning
pub mod Counting
pub mod Speaking
pub mod Accepting
pub mod Admitting
pub mod Exemplary
pub mod Erring
pub mod Asking
pub mod Hopward
pub mod Blaming
pub mod Blockading
pub mod Instances
pub use Rattle.laws_bounds.proofs as LawsBounds
