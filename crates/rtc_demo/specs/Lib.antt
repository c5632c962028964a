pub mod DemoSteps
pub mod DemoCounts
pub mod DemoWords
