pub mod Outcomes
pub mod Events
pub mod Outputs
pub mod Report
pub mod Rows
pub mod Fits
pub mod Alike
