pub mod Words
pub mod WordsLaws
pub mod Plain
pub mod PlainLaws
