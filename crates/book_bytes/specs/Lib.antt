pub mod Spelling
pub mod Kinds
