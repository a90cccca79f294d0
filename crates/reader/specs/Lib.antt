pub mod Step
pub mod Judged
pub mod Reader
pub mod Answers
pub mod StepLaws
pub mod ReaderLaws
pub mod RunLaws
pub mod AnswersLaws
