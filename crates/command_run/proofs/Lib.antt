mod Digits
pub mod Answering
pub mod WholeLines
pub mod FirstLines
pub mod Replays
pub mod Shows
pub mod StatusTexts
pub mod Grown
pub mod Nothing
pub mod Shown
