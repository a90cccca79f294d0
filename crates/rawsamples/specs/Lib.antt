-- The samples of a raw item, and their laws.
pub mod RawSamples
pub mod Says
