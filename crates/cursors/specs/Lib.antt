pub mod Cursors
pub mod CursorsLaws
