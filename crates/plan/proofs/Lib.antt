pub mod Stays
pub mod Told
pub mod Reckoned
pub mod Ready
pub mod Entering
