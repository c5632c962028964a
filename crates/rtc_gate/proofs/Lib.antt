pub mod HexLemmas
pub mod RefusedScripts
pub mod StoppedLines
pub mod ZipLemmas
pub mod GateScripts
pub mod SmallScripts
