pub mod Worked
pub mod WorkedEdges
pub mod Lived
pub use Rattle.router_rules.proofs as RouterRules
