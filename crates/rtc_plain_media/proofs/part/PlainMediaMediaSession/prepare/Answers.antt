use Rattle.std.proofs.Common.{◌≡◌, List, length, ap, arith}
use Rattle.rtc_parts.specs.declared.media_update.MediaUpdate.{MediaUpdate}
use Rattle.rtc_plain_media.specs.SourceCounts.{updates_numbers}
use Rattle.rtc_plain_media.proofs.CountLemmas.{keeps_reserved, keeps_prepared}
use Rattle.rtc_plain_media.proofs.part.PlainMediaMediaSession.prepare.Goals as goal

pub invariant_of-self : goal.invariant_of-self
invariant_of-self c =
    let p = c.self.inside in
    let m = c.make_ready.ensures in (
      omega (arith, c.self.invariant.0, m.lines_spare),
      omega (arith, c.self.invariant.1, m.len, m.capacity),
      keeps_reserved p.counts c.make_ready.new.counts p.most p.pending.items p.lines.entries c.make_ready.new.lines.entries m.counts m.counts_spare m.lines c.self.invariant.2,
    )

pub invariant_of-self-in_err-copies : goal.invariant_of-self-in_err-copies
invariant_of-self-in_err-copies c =
    let p = c.self.inside in
    let m = c.make_ready.ensures in (
      omega (arith, c.self.invariant.0, m.lines_spare),
      omega (arith, c.self.invariant.1, m.len, m.capacity),
      keeps_reserved p.counts c.make_ready.new.counts p.most p.pending.items p.lines.entries c.make_ready.new.lines.entries m.counts m.counts_spare m.lines c.self.invariant.2,
    )

pub invariant_of-self-2 : goal.invariant_of-self-2
invariant_of-self-2 c =
    let p = c.self.inside in
    let m = c.make_ready.ensures in
    let made = c.in_ok-most.ensures in
    let size : length c.in_ok-copies.copies.items ≡ length c.args.updates.now = ap (λ (us : List MediaUpdate). length us) c.in_ok-copies.ensures in
    let numbers : updates_numbers c.in_ok-copies.copies.items ≡ updates_numbers c.args.updates.now = ap (λ (us : List MediaUpdate). updates_numbers us) c.in_ok-copies.ensures in (
      omega (arith, made.lines_room, size),
      omega (arith, made.events_room, size),
      keeps_prepared p.counts c.make_ready.new.counts p.most c.in_ok-most.most p.pending.items c.in_ok-copies.copies.items p.lines.entries c.make_ready.new.lines.entries
          m.counts (omega (arith, numbers, made.counts_room)) (omega (arith, numbers, made.most)) made.fits m.lines c.self.invariant.2,
    )
