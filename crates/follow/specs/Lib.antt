pub mod Follow
pub mod AtLaws
