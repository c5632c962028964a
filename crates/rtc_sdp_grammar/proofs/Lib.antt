pub mod NameLemmas
pub mod WordLemmas
pub mod LineLaws
pub mod ConnectionLineLaws
pub mod MediaLineLaws
mod StandardFacts
