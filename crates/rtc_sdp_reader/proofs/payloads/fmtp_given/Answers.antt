use Rattle.std.proofs.Common.{◌≡◌, ◌<◌, ◌∙◌, ℕ, List, length, IfOk, Some, None, sym, refl, subst}
use Rattle.std.proofs.lemmas.Option.{slice_get_read}
use Rattle.std.specs.List.{slice_get}
use Rattle.rtc_wire_text.specs.Fields.{first}
use Rattle.rtc_sdp_attributes.specs.declared.fmtp.Fmtp.{Fmtp}
use Rattle.rtc_sdp_reader.specs.Payloads as spec
use Rattle.rtc_sdp_reader.proofs.RowLemmas.{fmtp_found, fmtp_kept}
use Rattle.rtc_sdp_reader.proofs.payloads.fmtp_given.Goals as goal

pub returns-in-Some-clause-given : goal.returns-in-Some-clause-given
returns-in-Some-clause-given c =
    let fmtps = c.args.fmtps.now.items in
    let item = c.index_mut.result.now in
    let Below : List Fmtp → Type 0 = λ xs. c.in-Some.place < length xs in
    let Looked : List Fmtp → Type 0 = λ xs. slice_get xs c.in-Some.place ≡ first (spec.parameters_for c.args.pt) xs in
    let below = subst Below c.as_slice.ensures.value c.in-Some.ensures.place in
    let looked = subst Looked c.as_slice.ensures.value c.in-Some.ensures.fmtp in
    let here = slice_get_read fmtps _ c.in-Some.place item refl below c.index_mut.ensures.value in
    let P : List ℕ → Type 0 = λ text. IfOk c.given.result (λ given. given ≡ text) in
    subst P (fmtp_found fmtps c.args.pt (Some item) (sym here ∙ looked)) c.given.ensures.given

pub returns-in-Some-clause-kept : goal.returns-in-Some-clause-kept
returns-in-Some-clause-kept c other differs =
    let fmtps = c.args.fmtps.now.items in
    let item = c.index_mut.result.now in
    let Below : List Fmtp → Type 0 = λ xs. c.in-Some.place < length xs in
    let Looked : List Fmtp → Type 0 = λ xs. slice_get xs c.in-Some.place ≡ first (spec.parameters_for c.args.pt) xs in
    let below = subst Below c.as_slice.ensures.value c.in-Some.ensures.place in
    let looked = subst Looked c.as_slice.ensures.value c.in-Some.ensures.fmtp in
    let here = slice_get_read fmtps _ c.in-Some.place item refl below c.index_mut.ensures.value in
    fmtp_kept fmtps c.in-Some.place c.args.pt other item c.given.new.text c.args.goes below c.index_mut.ensures.value
    (sym looked ∙ here) c.given.ensures.kept differs

pub returns-in-None-clause-given : goal.returns-in-None-clause-given
returns-in-None-clause-given c =
    let Looked : List Fmtp → Type 0 = λ xs. None ≡ first (spec.parameters_for c.args.pt) xs in
    let looked = subst Looked c.as_slice.ensures.value c.in-None.ensures.fmtp in
    c.new-in-None.ensures ∙ c.new.ensures.bytes ∙ fmtp_found c.args.fmtps.now.items c.args.pt None looked
