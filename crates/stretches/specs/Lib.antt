pub mod Stretches
pub mod WordsLaws
pub mod BitsLaws
pub mod StretchesLaws
