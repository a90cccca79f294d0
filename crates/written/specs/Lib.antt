-- What the lines on a page are, which of them have room, and their laws.
pub mod Page
pub mod PageLaws
pub mod Line
pub mod LineLaws
pub mod Room
pub mod RoomLaws
