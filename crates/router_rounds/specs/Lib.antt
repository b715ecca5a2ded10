pub mod Rounds
pub mod RoundLaws
pub mod Passing
pub mod RouteRounds
pub mod Nears
pub mod SenderMoves
pub use Rattle.router_aging.specs.Steps
