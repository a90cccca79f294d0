pub mod Word
pub mod Tag
pub mod TagLaws
pub mod Bytes
