mod DemoFacts
pub mod RoundForms
pub mod IdleRounds
pub mod OrderlyDemos
pub mod FinishedDemos
pub mod AskedWords
