pub mod Tables
pub mod Reserved
pub mod Kept
pub mod Standing
pub mod AtNodes
pub mod Listed
pub mod Fit
