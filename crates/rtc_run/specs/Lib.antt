pub mod ProgramPair
pub mod NumberedPair
pub mod Completeness
pub mod ConnectionSteps
pub mod ExtendsRun
pub mod OwnPackets
