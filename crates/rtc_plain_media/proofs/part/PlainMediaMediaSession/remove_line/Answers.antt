use Rattle.std.proofs.Common.{arith}
use Rattle.rtc_plain_media.proofs.CountLemmas.{keeps_dropped}
use Rattle.rtc_plain_media.proofs.part.PlainMediaMediaSession.remove_line.Goals as goal

pub invariant_of-self : goal.invariant_of-self
invariant_of-self c =
    let p = c.self.inside in (
      omega (arith, c.self.invariant.0, c.drop_line.ensures.spare),
      c.self.invariant.1,
      keeps_dropped p.counts c.drop_line.new.counts p.most p.pending.items p.lines.entries c.drop_line.new.lines.entries
          c.drop_line.ensures.room c.drop_line.ensures.less c.drop_line.ensures.counts c.self.invariant.2,
    )
