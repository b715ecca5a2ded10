pub mod Readings
pub mod Adverts
pub mod Flows
pub mod AdvertsWorked
pub mod FlowsWorked
pub mod Following
pub mod Ending
pub mod Worked
