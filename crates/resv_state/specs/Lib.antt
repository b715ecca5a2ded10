pub mod Leaving
pub mod Merging
pub mod Resvs
pub mod Walks
pub use Rattle.style_rules.specs as StyleRules
