pub mod Ties
pub mod Unique
