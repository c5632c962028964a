pub mod FollowedAnswers
pub mod Growths
pub mod Moves
pub mod ToldHalves
