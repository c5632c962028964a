pub mod Scripts
pub mod Words
pub mod Completes
mod NewPairs
mod DrawnAnswers
mod AnsweredScripts
mod ProgramDrains
mod PrintedNames
pub mod Performances
pub mod Demos
