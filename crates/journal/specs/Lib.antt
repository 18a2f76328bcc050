pub mod Faults
pub mod Memories
pub mod Books
pub mod Rows
pub mod Promise
pub mod Theorems
