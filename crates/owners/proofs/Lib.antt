pub mod OrderLaws
pub mod OwnLaws
pub mod AloneLaws
