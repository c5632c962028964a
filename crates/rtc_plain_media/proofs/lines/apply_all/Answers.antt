use Rattle.std.proofs.Common.{◌≡◌, ◌+◌, ◌++◌, List, sym, ap, ◌∙◌, append_assoc, append-nil, refl, arith}
use Rattle.rtc_parts.specs.declared.media_update.MediaUpdate.{MediaUpdate}
use Rattle.rtc_plain_media.specs.declared.plain_media_event.PlainMediaEvent.{PlainMediaEvent}
use Rattle.rtc_plain_media.specs.Lines.{Lines, lines_after, events_after, events_of, set_line}
use Rattle.rtc_plain_media.specs.SourceCounts.{count_for, update_numbers, updates_numbers}
use Rattle.rtc_plain_media.proofs.CountLemmas.{counts_put, update_most}
use Rattle.rtc_plain_media.proofs.QueueLemmas.{none_left}
use Rattle.rtc_plain_media.proofs.lines.apply_all.Goals as goal

pub apply-requires-clause-counts : goal.apply-requires-clause-counts
apply-requires-clause-counts c =
    let parted : updates_numbers c.loop-update.pending.items ≡ update_numbers c.in-Some.update + updates_numbers c.pop_front.new.self.items = ap updates_numbers c.in-Some.ensures.items in
    omega (arith, parted, c.loop-update.invariant.counts_room)

pub apply-requires-clause-fits : goal.apply-requires-clause-fits
apply-requires-clause-fits c = λ n.
    let parted : updates_numbers c.loop-update.pending.items ≡ update_numbers c.in-Some.update + updates_numbers c.pop_front.new.self.items = ap updates_numbers c.in-Some.ensures.items in
    omega (arith, parted, c.loop-update.invariant.most n, c.requires.fits n)

pub apply-requires-clause-lines : goal.apply-requires-clause-lines
apply-requires-clause-lines c = omega (arith, c.in-Some.ensures.cases, c.loop-update.invariant.lines_room)

pub apply-requires-clause-events : goal.apply-requires-clause-events
apply-requires-clause-events c = omega (arith, c.in-Some.ensures.cases, c.loop-update.invariant.events_room)

pub loop-update-preserved : goal.loop-update-preserved
loop-update-preserved c =
    let u = c.in-Some.update in
    let rest = c.pop_front.new.self.items in
    let lines = c.loop-update.lines.entries in
    let events = c.loop-update.events.items in
    let parted : updates_numbers c.loop-update.pending.items ≡ update_numbers u + updates_numbers rest = ap updates_numbers c.in-Some.ensures.items in
    let joined : (events ++ events_of u lines) ++ events_after rest (set_line u lines) ≡ events ++ (events_of u lines ++ events_after rest (set_line u lines)) = rw append_assoc refl in
    record {
      lines =
          ap (λ (ls : Lines). lines_after rest ls) c.apply.ensures.lines
          ∙ sym (ap (λ (us : List MediaUpdate). lines_after us lines) c.in-Some.ensures.items)
          ∙ c.loop-update.invariant.lines;
      events =
          ap (λ (es : List PlainMediaEvent). es ++ events_after rest c.apply.new.lines.entries) c.apply.ensures.events
          ∙ ap (λ (ls : Lines). (events ++ events_of u lines) ++ events_after rest ls) c.apply.ensures.lines
          ∙ joined
          ∙ sym (ap (λ (us : List MediaUpdate). events ++ events_after us lines) c.in-Some.ensures.items)
          ∙ c.loop-update.invariant.events;
      lines_room = omega (arith, c.in-Some.ensures.cases, c.loop-update.invariant.lines_room, c.apply.ensures.spare);
      events_room = omega (arith, c.in-Some.ensures.cases, c.loop-update.invariant.events_room, c.apply.ensures.len, c.apply.ensures.capacity);
      counts_room = omega (arith, parted, c.loop-update.invariant.counts_room, c.apply.ensures.room);
      counts = λ n. counts_put n u lines c.apply.new.lines.entries (count_for c.loop-update.counts n) (count_for c.apply.new.counts n) c.apply.ensures.lines (c.loop-update.invariant.counts n) (c.apply.ensures.counts n);
      most = λ n. omega (arith, parted, c.loop-update.invariant.most n, c.apply.ensures.counts n, update_most n u);
    }

pub returns-clause-lines : goal.returns-clause-lines
returns-clause-lines c =
    ap (λ (us : List MediaUpdate). lines_after us c.loop-update.lines.entries) (sym (none_left _ _ c.in_default.ensures.items c.in_default.ensures.rest))
    ∙ c.loop-update.invariant.lines

pub returns-clause-events : goal.returns-clause-events
returns-clause-events c =
    sym (append-nil c.loop-update.events.items)
    ∙ ap (λ (us : List MediaUpdate). c.loop-update.events.items ++ events_after us c.loop-update.lines.entries)
    (sym (none_left _ _ c.in_default.ensures.items c.in_default.ensures.rest))
    ∙ c.loop-update.invariant.events

pub returns-clause-counts : goal.returns-clause-counts
returns-clause-counts c = c.loop-update.invariant.counts

pub returns-clause-most : goal.returns-clause-most
returns-clause-most c = λ n. omega (arith, c.loop-update.invariant.most n)

pub returns-clause-pending : goal.returns-clause-pending
returns-clause-pending c = sym c.in_default.ensures.items ∙ none_left _ _ c.in_default.ensures.items c.in_default.ensures.rest

pub returns-clause-empty : goal.returns-clause-empty
returns-clause-empty c = c.in_default.ensures.cases.1

pub returns-clause-room : goal.returns-clause-room
returns-clause-room c = omega (arith, c.loop-update.invariant.events_room)
