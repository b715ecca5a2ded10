mod Named
pub mod Alone
pub mod Confs
mod Errs
mod Going
mod LeftOver
mod PathErrs
mod Runs
mod Telling
pub mod Walking
mod Blockading
