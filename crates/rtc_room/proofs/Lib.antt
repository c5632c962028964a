pub mod RefusedScripts
pub mod StoppedLines
pub mod ZipLemmas
pub mod RoomScripts
pub mod SmallRoomScripts
pub mod RoomCounts
pub mod JoinWords
mod CompletedRooms
