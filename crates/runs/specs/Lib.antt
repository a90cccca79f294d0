pub mod Runs
pub mod StepsLaws
pub mod RunsLaws
