mod CountedLoans
mod LoanLemmas
mod NumberingFacts
