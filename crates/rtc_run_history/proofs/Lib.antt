pub mod BothSides
mod FinishedFacts
mod RoundFacts
mod OrderlyFacts
pub mod WorkedEntries
pub mod LineFacts
pub mod ChannelFacts
pub mod RestartFacts
mod GlareFacts
