pub mod Steps
pub mod States
pub mod Calls
pub mod Drafting
