pub mod BuildLemmas
pub mod ShownLemmas
pub mod StagedMedia
