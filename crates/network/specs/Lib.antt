pub mod Network
pub mod Refusals
pub mod Faults
pub mod Reckoning
pub mod Rounds
