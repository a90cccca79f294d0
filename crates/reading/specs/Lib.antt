pub mod Inner
pub mod Reading
pub mod ReadingLaws
