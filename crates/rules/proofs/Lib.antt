pub mod Decisions
pub mod Rows
