-- What the lister prints of one record, and its laws.
pub mod Entries
pub mod AheadLaws
