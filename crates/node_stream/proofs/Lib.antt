pub mod Faults
pub mod Forms
pub mod Placed
pub mod Texts
mod Short
pub mod Framing
pub mod Follows
pub mod Coming
pub mod Opening
pub mod Posted
pub mod Doing
pub mod Units
pub mod Served
pub mod Going
