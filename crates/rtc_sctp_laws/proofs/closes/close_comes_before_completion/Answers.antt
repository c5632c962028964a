use Rattle.rtc_sctp_laws.proofs.ClosingRuns.{closes_first_in}
use Rattle.rtc_sctp_laws.proofs.MarkLemmas.{close_marks, finished_marks}
use Rattle.rtc_sctp_laws.proofs.closes.close_comes_before_completion.Goals as goal

pub returns-clause-closed : goal.returns-clause-closed
returns-clause-closed g c = λ p q id place e r h at k f. close_marks g.S.Association.association id place p r q e h at k f

pub returns-clause-finished : goal.returns-clause-finished
returns-clause-finished g c = λ b b' id place e h at k f. finished_marks id place b b' e h at k f

pub returns-clause-order : goal.returns-clause-order
returns-clause-order g c = λ p q id all e s k h.
    closes_first_in g.S.Association.association g.met.S.Association.laws id all p q h (record { established = e; started = s; ending = k })
