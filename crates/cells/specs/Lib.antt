pub mod Cells
pub mod CellsLaws
pub mod SoundLaws
