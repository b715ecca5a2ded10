pub mod FrameLaws
pub mod PathLaws
pub mod CountdownLaws
pub mod SpeakingLaws
pub mod AcceptingLaws
pub mod Examples
pub mod ErrorLaws
pub mod ReservationLaws
pub mod BlameLaws
pub mod ReservationExamples
pub use Rattle.laws_bounds.specs as LawsBounds
