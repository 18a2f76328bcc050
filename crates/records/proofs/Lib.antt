pub mod Counts
pub mod Limits
pub mod Walks
pub mod Every
