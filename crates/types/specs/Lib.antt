pub mod Types
pub mod TypesLaws
