pub mod Found
pub mod FoundLaws
pub mod Inner
pub mod UniqueLaws
