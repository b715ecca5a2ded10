pub mod Handles
pub mod Units
pub mod Taking
pub mod Wishes
pub mod Rounds
pub mod Halves
