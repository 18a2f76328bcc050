pub mod Steps
pub mod Kept
pub mod Force
pub mod Memories
pub mod Rows
pub mod Stays
pub mod Rings
