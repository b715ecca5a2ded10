pub mod Offering
pub mod Renewing
pub mod Ways
pub use Rattle.laws_sends.specs.RouterState
