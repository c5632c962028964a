pub mod Asking
pub mod HexWords
pub mod CallLines
pub mod GateScript
pub mod LinesRead
pub mod ReplyLines
pub mod Answers
