pub mod ShownChannels
pub mod StagedNames
