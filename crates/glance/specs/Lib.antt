-- The words that the lister knows at a glance, and their laws.
pub mod Quick
pub mod QuickLaws
