pub mod Erring
mod Opened
mod Told
mod Emptying
mod Standing
mod Sending
mod Mine
mod Left
mod Waited
mod Booking
mod Quiet
mod BySession
mod Again
mod WithParts
mod InOrder
