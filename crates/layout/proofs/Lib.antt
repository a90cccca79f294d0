pub mod GrammarLaws
pub mod ParseLaws
pub mod EndsLaws
pub mod WrongLaws
pub mod ExactLaws
