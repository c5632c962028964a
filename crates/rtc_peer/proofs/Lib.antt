pub mod HandleLoans
mod LiveOffers
mod NestedLoans
pub mod SignalLemmas
mod WorkedSignals
