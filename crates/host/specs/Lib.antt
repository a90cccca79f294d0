pub mod Face
pub mod FaceLaws
pub mod Inner
pub mod LoadsLaws
pub mod UniqueLaws
