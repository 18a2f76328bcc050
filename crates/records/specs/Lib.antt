pub mod Records
pub mod Places
pub mod Register
pub mod Stored
pub mod Lent
pub mod Entered
