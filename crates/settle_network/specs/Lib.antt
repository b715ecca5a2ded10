pub mod Settled
pub mod Sessions
pub mod Purged
pub mod Example
pub mod Tight
pub mod RunExample
pub mod Flags
pub mod DemandedFlags
pub mod FlagsExample
pub use Rattle.settle_resvs.specs as SettleResvs
