-- The line of each record.
pub mod Lines
