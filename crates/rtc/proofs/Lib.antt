pub mod Bare
pub mod Driven
pub mod FittingWrites
mod LeftOffers
pub mod Signalled
