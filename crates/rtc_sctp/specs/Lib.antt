pub mod Streams
pub mod Calls
pub mod Refusals
pub mod SnapCalls
pub mod StreamCalls
pub mod Polls
pub mod Rest
pub mod TourSteps
