use Rattle.std.proofs.Common.{◌≡◌, ◌∙◌, None, Some, ap, sym}
use Rattle.rtc_sctp_entries.specs.declared.stream_entry.StreamEntry.{StreamEntry}
use Rattle.rtc_sctp_entries.specs.Entries.{entry_place}
use Rattle.rtc_sctp_entries.specs.Visits.{turn}
use Rattle.rtc_sctp.proofs.IdSteps.{place_is, steps_absent, steps_visit, tended_absent}
use Rattle.rtc_sctp.proofs.TendedLemmas.{tended_visit}
use Rattle.rtc_sctp.proofs.walk.visit_stream.Goals as goal

pub returns-in_default-clause-tended : goal.returns-in_default-clause-tended
returns-in_default-clause-tended g c =
    let none : entry_place c.args.id c.args.entries.now.items ≡ None = sym (c.place_of.ensures ∙ ap (entry_place c.args.id) c.as_slice.ensures.value) ∙ c.in_default.is in
    tended_absent g.S.Association.association c.args.association.now c.args.id c.args.entries.now.items c.args.agenda.now c.forget.new.self c.requires.tended none
    c.forget.ensures.others c.forget.ensures.apart c.forget.ensures.closed

pub returns-in_default-clause-steps : goal.returns-in_default-clause-steps
returns-in_default-clause-steps g c =
    let none : entry_place c.args.id c.args.entries.now.items ≡ None = sym (c.place_of.ensures ∙ ap (entry_place c.args.id) c.as_slice.ensures.value) ∙ c.in_default.is in
    steps_absent g.S.Association.association c.args.now c.args.id c.args.entries.now.items c.args.association.now c.args.resets.now.items c.requires.tended.ascend none

pub returns-clause-tended : goal.returns-clause-tended
returns-clause-tended g c =
    let x : StreamEntry = c.index_mut-entry.result.now in
    let some : entry_place c.args.id c.args.entries.now.items ≡ Some c.in-Some.place =
    sym (c.place_of.ensures ∙ ap (entry_place c.args.id) c.as_slice.ensures.value) ∙ c.in-Some.is in
    let at = place_is c.args.id c.in-Some.place c.args.entries.now.items x some in
    let own : x.id ≡ c.args.id = ap (λ (e : StreamEntry). e.id) c.index_mut-entry.ensures.value ∙ at.1 in
    tended_visit g.S.Association.association g.met.S.Association.laws c.args.now c.visit-met.result c.args.id c.args.association.now c.args.resets.now.items
    c.args.entries.now.items c.in-Some.place x (turn c.visit-met.new.association c.visit-met.new.entry c.visit-met.new.resets.items) c.args.agenda.now c.settle.new.self
    c.requires.tended at.0 c.index_mut-entry.ensures.value own c.visit-met.ensures c.settle.ensures.here c.settle.ensures.others
    (c.settle.ensures.buffered ∙ c.may_buffer-some.ensures) c.settle.ensures.apart c.settle.ensures.closed

pub returns-clause-steps : goal.returns-clause-steps
returns-clause-steps g c =
    let x : StreamEntry = c.index_mut-entry.result.now in
    let some : entry_place c.args.id c.args.entries.now.items ≡ Some c.in-Some.place =
    sym (c.place_of.ensures ∙ ap (entry_place c.args.id) c.as_slice.ensures.value) ∙ c.in-Some.is in
    let at = place_is c.args.id c.in-Some.place c.args.entries.now.items x some in
    steps_visit g.S.Association.association g.met.S.Association.laws c.args.now c.visit-met.result c.args.id c.in-Some.place c.args.entries.now.items x
    c.args.association.now c.args.resets.now.items (turn c.visit-met.new.association c.visit-met.new.entry c.visit-met.new.resets.items) c.requires.tended.ascend at.0
    c.index_mut-entry.ensures.value (ap (λ (e : StreamEntry). e.id) c.index_mut-entry.ensures.value ∙ at.1) c.visit-met.ensures
