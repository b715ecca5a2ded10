pub mod Parcels
pub mod Rooms
pub use Rattle.network_model.specs.Events
pub use Rattle.network_model.specs.Links
pub use Rattle.network_model.specs.Runs
pub use Rattle.network_model.specs.Steps
pub use Rattle.network_model.specs.Texts
pub use Rattle.network_model.specs.Worlds
