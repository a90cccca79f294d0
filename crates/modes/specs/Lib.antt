pub mod Channel
pub mod Inner
pub mod InnerLaws
pub mod BoundLaws
