pub mod FlowOrder
pub mod Blockade
pub mod Laws
