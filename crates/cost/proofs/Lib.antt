pub mod Sums
pub mod Turned
pub mod Costs
