pub mod NextOf
pub mod NextOfLaws
pub mod Next
pub mod Answers
pub mod AtLaws
pub mod NextLaws
pub mod AnswersLaws
