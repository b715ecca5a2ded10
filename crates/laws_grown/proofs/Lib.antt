pub mod Rows
pub mod Calls
pub mod Sending
pub mod Wanting
pub mod Lists
pub mod Senders
pub mod Wants
pub mod Standing
pub mod Fit
pub mod Silent
pub mod Ending
pub mod Equal
pub use Rattle.script_theorem.proofs as ScriptTheorem
pub mod Opening
pub mod FewSenders
pub mod Crowding
