pub mod StyleLaws
pub mod Folds
pub mod Merges
pub mod Towards
pub mod Books
pub mod Room
pub mod Claims
pub mod WayRows
pub mod Tallies
pub mod TallyRoom
pub mod MergerRows
mod Worked
pub mod Same
pub use Rattle.flow_merge.proofs.Lattice
pub use Rattle.flow_merge.proofs.Told
