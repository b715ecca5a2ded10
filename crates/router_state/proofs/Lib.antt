pub mod Routed
pub mod Settling
pub mod Ruling
pub mod Room
pub mod Counted
pub mod Passing
pub mod Leaving
pub mod Opening
pub use Rattle.laws_bounds.proofs.Asks
pub use Rattle.laws_bounds.proofs.Knowing
pub use Rattle.laws_bounds.proofs.Lists
pub use Rattle.laws_bounds.proofs.Offering
pub use Rattle.laws_bounds.proofs.Once
pub use Rattle.laws_bounds.proofs.Requesting
pub use Rattle.laws_bounds.proofs.Tests
pub use Rattle.laws_bounds.proofs as LawsBounds
