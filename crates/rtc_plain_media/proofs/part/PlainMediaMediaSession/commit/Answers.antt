use Rattle.std.proofs.Common.{arith}
use Rattle.rtc_plain_media.proofs.CountLemmas.{keeps_dropped, keeps_applied}
use Rattle.rtc_plain_media.proofs.part.PlainMediaMediaSession.commit.Goals as goal

pub apply_all-requires-clause-counts : goal.apply_all-requires-clause-counts
apply_all-requires-clause-counts c = omega (arith, c.self.invariant.2.room, c.drop_removed.ensures.room)

pub apply_all-requires-clause-counted : goal.apply_all-requires-clause-counted
apply_all-requires-clause-counted c = c.drop_removed.ensures.counts c.self.invariant.2.exact

pub apply_all-requires-clause-fits : goal.apply_all-requires-clause-fits
apply_all-requires-clause-fits c = λ n. omega (arith, c.self.invariant.2.fits n, c.drop_removed.ensures.less n, c.self.invariant.2.bounded)

pub invariant_of-self : goal.invariant_of-self
invariant_of-self c =
    let p = c.self.inside in (
      omega (arith, c.apply_all.ensures.empty),
      omega (arith, c.apply_all.ensures.empty, c.apply_all.ensures.room),
      keeps_applied c.drop_removed.new.counts c.apply_all.new.counts p.most p.pending.items c.apply_all.new.pending.items
          c.drop_removed.new.lines.entries c.apply_all.new.lines.entries c.apply_all.ensures.pending c.apply_all.ensures.most c.apply_all.ensures.counts
          (keeps_dropped p.counts c.drop_removed.new.counts p.most p.pending.items p.lines.entries c.drop_removed.new.lines.entries
          c.drop_removed.ensures.room c.drop_removed.ensures.less c.drop_removed.ensures.counts c.self.invariant.2),
    )
