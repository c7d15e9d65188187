pub mod Store
pub mod Step
pub mod Demand3
