pub mod Copies
pub mod CopiesLaws
