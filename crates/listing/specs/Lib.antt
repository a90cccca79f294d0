-- What the lister prints, and its laws.
pub mod Listing
pub mod Says
pub mod BlockLaws
pub mod RoomLaws
pub mod MostLaws
