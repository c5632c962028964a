use Rattle.rtc_sctp_entries.proofs.StreamLaws.{data_unmarked, opening_given_up}
use Rattle.rtc_sctp_laws.proofs.visits.visits_keep_marks_and_deadlines.Goals as goal

pub returns-clause-data : goal.returns-clause-data
returns-clause-data g c = λ now t t' met h d. data_unmarked g.S.Association.association now t met t' h d

pub returns-clause-deadline : goal.returns-clause-deadline
returns-clause-deadline g c = λ now t t' met a late h. opening_given_up g.S.Association.association now t met t' a late h
