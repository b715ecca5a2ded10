pub mod Blamed
pub mod FlowFaults
pub mod FlowTexts
