pub mod RowLemmas
pub mod PayloadLookups
pub mod PayloadLaw
pub mod LinkLemmas
pub mod LayerLaw
pub mod PlaceLemmas
pub mod SourceLaw
pub mod NumberLemmas
pub mod FirstRefusedLaw
pub mod PutLaws
pub mod Resume
mod StandardFacts
mod FirstLine
pub mod GivenLemmas
pub mod PayloadKeys
pub mod ReadPayloads
