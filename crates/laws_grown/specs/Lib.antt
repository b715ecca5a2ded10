pub mod Runs
pub mod Equal
pub use Rattle.script_theorem.specs as ScriptTheorem
pub mod Grown
