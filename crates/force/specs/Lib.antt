pub mod Force
pub mod Floors
pub mod Constraints
pub mod Added
pub mod Reckoned
pub mod Work
