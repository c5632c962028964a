use Rattle.std.proofs.Common.{◌∙◌, sym, ap}
use Rattle.rtc_sctp_entries.specs.Entries.{entry_place}
use Rattle.rtc_sctp.proofs.CallsTended.{tended_noted}
use Rattle.rtc_sctp.proofs.OrderKept.{threshold_is}
use Rattle.rtc_sctp.proofs.StreamsTended.{tended_threshold}
use Rattle.rtc_sctp.proofs.streams.RtcSctp.set_buffered_amount_low_threshold.Goals as goal

pub invariant_of-self : goal.invariant_of-self
invariant_of-self g c = (
  tended_threshold g.S.Association.association _ c.args.id c.args.n c.in-Some.place _ _ _
      (tended_noted g.S.Association.association _ c.args.id _ _ _ c.self.invariant.0 c.note.ensures.here c.note.ensures.others c.note.ensures.buffered c.note.ensures.apart c.note.ensures.closed) c.note.ensures.here
      (sym (c.place_of.ensures ∙ ap (entry_place c.args.id) c.as_slice.ensures.value) ∙ c.in-Some.is) c.set_threshold_at.ensures,
  λ e. cc (e),
)

pub returns-in-Some : goal.returns-in-Some
returns-in-Some g c =
    threshold_is c.args.id c.args.n c.in-Some.place _ c.args.self.now c.set_threshold_at.new.entries.items c.self.view_is
    (sym (c.place_of.ensures ∙ ap (entry_place c.args.id) c.as_slice.ensures.value) ∙ c.in-Some.is) c.set_threshold_at.ensures

pub place_of-requires : goal.place_of-requires
place_of-requires g c = rw c.as_slice.ensures.value c.self.invariant.0.ascend
