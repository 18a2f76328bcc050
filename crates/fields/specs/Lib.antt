pub mod Faults
pub mod Fields
