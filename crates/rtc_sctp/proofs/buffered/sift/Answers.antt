use Rattle.std.proofs.Common.{◌∙◌, sym, subst, arith, ap}
use Rattle.rtc_sctp_values.specs.StreamIds.{StreamIds, has_id}
use Rattle.rtc_sctp.specs.Rest.{AreCounted}
use Rattle.rtc_sctp.proofs.CallsTended.{tended_counted}
use Rattle.rtc_sctp.proofs.CountLemmas.{counted_at}
use Rattle.rtc_sctp.proofs.buffered.sift.Goals as goal

pub returns-in_default : goal.returns-in_default
returns-in_default g c =
    tended_counted g.S.Association.association c.args.association.now c.args.entries.now c.args.agenda.now c.next_buffered.new.self c.requires
    c.next_buffered.ensures.streams c.next_buffered.ensures.closed
    (subst (λ (ids : StreamIds). AreCounted g.S.Association.association c.args.association.now ids c.args.entries.now) (sym c.next_buffered.ensures.buffered) c.requires.counted)

pub returns : goal.returns
returns g c =
    let m = g.S.Association.association in
    let a = c.args.association.now in
    let es = c.args.entries.now in
    tended_counted m a es c.args.agenda.now c.count.new.self c.requires (c.count.ensures.streams ∙ c.next_buffered.ensures.streams) (c.count.ensures.closed ∙ c.next_buffered.ensures.closed)
    (counted_at m a a c.in-Some.id c.args.agenda.now.buffered c.count.new.self.buffered es es (λ other ne. omega arith) (λ other has. has)
    (λ other ne. c.count.ensures.apart other ne ∙ ap (λ (ids : StreamIds). has_id other ids) c.next_buffered.ensures.buffered)
    (λ has out. c.is_counted-some.ensures (sym c.count.ensures.here ∙ out) has) c.requires.counted)

pub is_counted-some-requires : goal.is_counted-some-requires
is_counted-some-requires g c = c.requires.ascend
