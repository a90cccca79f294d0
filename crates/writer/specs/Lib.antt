pub mod Answer
pub mod AnswerLaws
pub mod Calls
pub mod CallsLaws
pub mod KeptLaws
pub mod UniqueLaws
