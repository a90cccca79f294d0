pub mod Face
pub mod FaceLaws
pub mod LoadsLaws
pub mod UniqueLaws
