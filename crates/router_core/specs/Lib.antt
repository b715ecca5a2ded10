pub mod Adverts
pub mod AnyOrder
pub mod Confirming
pub use Rattle.router_arrivals.specs.LeftOver
pub use Rattle.router_arrivals.specs.Coming
