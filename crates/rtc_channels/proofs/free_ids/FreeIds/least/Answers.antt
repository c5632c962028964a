use Rattle.std.proofs.Common.{sym, arith}
use Rattle.rtc_sctp_values.proofs.WordLemmas.{no_bits}
use Rattle.rtc_channels.proofs.IdLemmas.{increasing_ids, sixteen_bits, least_id, no_id}
use Rattle.rtc_channels.proofs.free_ids.FreeIds.least.Goals as goal

pub returns-then-self-eq0-clause-first : goal.returns-then-self-eq0-clause-first
returns-then-self-eq0-clause-first c =
    rw (← c.self.view_is)
    (sym (no_id c.self.inside.parity c.self.inside.words
    (no_bits c.self.inside.words c.self.inside.groups c.self.inside.top c.self.invariant.top_count c.self.invariant.lower c.self.invariant.upper c.if-self-eq0.true)))

pub returns-then-self-eq0-clause-ascending : goal.returns-then-self-eq0-clause-ascending
returns-then-self-eq0-clause-ascending c = rw (← c.self.view_is) (increasing_ids c.self.inside.parity c.self.inside.words)

pub returns-then-self-eq0-clause-ids : goal.returns-then-self-eq0-clause-ids
returns-then-self-eq0-clause-ids c = rw (← c.self.view_is) (sixteen_bits c.self.inside.parity c.self.inside.words c.self.invariant.bit)

pub returns-clause-first : goal.returns-clause-first
returns-clause-first c =
    rw (← c.self.view_is)
    (sym (least_id c.self.inside.parity c.first_bit-place.result c.self.inside.words c.self.invariant.bit
    (omega (arith, c.first_bit-place.ensures.word, c.first_bit-place.ensures.within, c.self.invariant.word_count)) c.first_bit-place.ensures.first))

pub returns-clause-ascending : goal.returns-clause-ascending
returns-clause-ascending c = rw (← c.self.view_is) (increasing_ids c.self.inside.parity c.self.inside.words)

pub returns-clause-ids : goal.returns-clause-ids
returns-clause-ids c = rw (← c.self.view_is) (sixteen_bits c.self.inside.parity c.self.inside.words c.self.invariant.bit)
