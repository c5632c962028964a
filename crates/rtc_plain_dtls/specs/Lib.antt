pub mod Held
pub mod Frames
pub mod Contents
pub mod Calls
pub mod PlainMeaning
pub mod TakesLemmas
pub mod PlainLaws
pub mod PollLemmas
