use Rattle.std.proofs.Common.{◌≡◌, None, sym, ◌∙◌, refl}
use Rattle.rtc_assoc_state.specs.Calls.{next_message}
use Rattle.rtc_assoc_state.proofs.InboxLemmas.{taken_out-none}
use Rattle.rtc_assoc_end.proofs.part.PlainAssociationAssociation.stream_read.Goals as goal

pub returns-in-None : goal.returns-in-None
returns-in-None c =
    let nothing : next_message c.args.id c.args.self.now ≡ None = sym c.in-None.ensures.message in
    (rw (← c.if-not-has.ensures) refl, rw nothing (c.in-None.ensures.rest ∙ taken_out-none c.args.id c.args.self.now nothing))
