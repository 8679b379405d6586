pub mod CoresLaws
pub mod RoomLaws
