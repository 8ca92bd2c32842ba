pub mod MoveLaws
pub mod RoomLaws
pub mod EventLaws
pub mod WakingList
pub mod WakingLaws
