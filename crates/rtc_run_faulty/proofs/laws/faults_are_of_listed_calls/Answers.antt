use Rattle.std.proofs.Common.{Err}
use Rattle.rtc_run_laws.proofs.ClosingCounts.{close_counts}
use Rattle.rtc_run_laws.proofs.InputCounts.{input_counts}
use Rattle.rtc_run_laws.proofs.PollCounts.{poll_counts}
use Rattle.rtc_run_faulty.specs.FaultyParts.{faulty_parts}
use Rattle.rtc_run_faulty.proofs.CallCauses.{answer_caused, offer_caused, role_caused, start_caused, write_caused}
use Rattle.rtc_run_faulty.proofs.ListedCauses.{faulty_laws, caused}
use Rattle.rtc_run_faulty.proofs.laws.faults_are_of_listed_calls.Goals as goal

pub returns-clause-polls : goal.returns-clause-polls
returns-clause-polls c = λ p q error polls. caused p q error (poll_counts faulty_parts faulty_laws p (Err error) q polls)

pub returns-clause-inputs : goal.returns-clause-inputs
returns-clause-inputs c = λ p q input error given. caused p q error (input_counts faulty_parts faulty_laws input p (Err error) q given)

pub returns-clause-closes : goal.returns-clause-closes
returns-clause-closes c = λ p q error closes. caused p q error (close_counts faulty_parts faulty_laws p (Err error) q closes)

pub returns-clause-offers : goal.returns-clause-offers
returns-clause-offers c = λ p q offer error h. offer_caused p q offer error h

pub returns-clause-answers : goal.returns-clause-answers
returns-clause-answers c = λ p q token answer error h. answer_caused p q token answer error h

pub returns-clause-writes : goal.returns-clause-writes
returns-clause-writes c = λ p q stream binary bytes error h. write_caused p q stream binary bytes error h

pub returns-clause-roles : goal.returns-clause-roles
returns-clause-roles c = λ p q active error h. role_caused p q active error h

pub returns-clause-starts : goal.returns-clause-starts
returns-clause-starts c = λ p q client halves error h. start_caused p q client halves error h
