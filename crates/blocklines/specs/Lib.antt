-- The lines of one block, and their laws.
pub mod BlockLines
pub mod BlockLaws
