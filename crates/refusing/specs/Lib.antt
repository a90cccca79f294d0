pub mod Tables
pub mod TablesLaws
pub mod RoomLaws
