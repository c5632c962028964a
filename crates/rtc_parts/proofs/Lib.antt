pub mod LaterLemmas
pub mod IceLemmas
pub mod DtlsLemmas
mod StreamLoans
pub mod AmongLemmas
pub mod AssociationLemmas
mod EventFacts
