pub mod Words
pub mod Runs
pub mod Circle
pub mod Change
pub mod Day
