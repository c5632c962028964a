pub mod MadeChannels
pub mod LoanLemmas
