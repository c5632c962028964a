use Rattle.std.proofs.Common.{arith}
use Rattle.rtc_sctp_values.specs.StreamIds.{has_id}
use Rattle.rtc_sctp_values.proofs.BitLemmas.{set_within}
use Rattle.rtc_sctp_values.proofs.stream_set.StreamSet.next.Goals as goal

pub overflow_cast-result : goal.overflow_cast-result
overflow_cast-result c =
    let first = c.in-Some.ensures in
    record { fits = omega (arith, set_within c.self.inside.words c.in-Some.place first.set, c.self.invariant.word_count) }

pub returns-in-None : goal.returns-in-None
unfolding has_id
returns-in-None c = rw (← c.self.view_is) c.in-None.ensures

pub returns-in-Some : goal.returns-in-Some
unfolding has_id
returns-in-Some c =
    let first = c.in-Some.ensures in
    rw (← c.self.view_is) (record { behind = first.behind; inside = first.set; before = first.before })
