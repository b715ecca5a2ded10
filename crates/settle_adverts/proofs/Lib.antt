pub mod Ways
pub mod Composing
pub mod SoftAdspecs
pub mod Sending
pub mod Settling
pub mod Demanded
pub mod Worked
