pub mod Answers
pub mod Asking
pub mod LinesRead
pub mod RoomLines
pub mod RoomReport
pub mod RoomScript
