pub mod Grammar
pub mod Layout
pub mod NothingLost
pub mod FirstWrong
pub mod Wrong
pub mod LayoutLaws
pub mod AcceptedLaws
pub mod PassLaws
