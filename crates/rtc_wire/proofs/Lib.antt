pub mod DcepOpenLemmas
pub mod StandardFacts
mod ShortTextLemmas
pub mod ChannelConfigLemmas
