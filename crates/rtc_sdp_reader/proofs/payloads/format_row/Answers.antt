use Rattle.std.proofs.Common.{◌≡◌, ◌<◌, ◌∙◌, List, length, Option, IfOk, sym, refl, subst}
use Rattle.std.proofs.lemmas.Option.{slice_get_read}
use Rattle.std.specs.List.{slice_get}
use Rattle.rtc_wire_text.specs.Fields.{first}
use Rattle.rtc_sdp_attributes.specs.declared.rtpmap.Rtpmap.{Rtpmap}
use Rattle.rtc_sdp_reader.specs.Payloads as spec
use Rattle.rtc_sdp_values.specs.declared.payload_row.PayloadRow.{PayloadRow}
use Rattle.rtc_sdp_reader.proofs.RowLemmas.{entry_row, entry_kept}
use Rattle.rtc_sdp_reader.proofs.payloads.format_row.Goals as goal

pub returns-in-Some-clause-row : goal.returns-in-Some-clause-row
returns-in-Some-clause-row c =
    let codecs = c.args.codecs.now.items in
    let item = c.index_mut.result.now in
    let Below : List Rtpmap → Type 0 = λ xs. c.in-Some.place < length xs in
    let Looked : List Rtpmap → Type 0 = λ xs. slice_get xs c.in-Some.place ≡ first (spec.codec_for c.args.format) xs in
    let below = subst Below c.as_slice.ensures.value c.in-Some.ensures.place in
    let looked = subst Looked c.as_slice.ensures.value c.in-Some.ensures.codec in
    let here = slice_get_read codecs _ c.in-Some.place item refl below c.index_mut.ensures.value in
    let P : Option PayloadRow → Type 0 = λ row. IfOk c.row_of.result (λ made. made ≡ row) in
    subst P (entry_row c.args.links.now codecs c.args.fmtps.now.items c.args.format item (sym looked ∙ here)) c.row_of.ensures.row

pub returns-in-Some-clause-others : goal.returns-in-Some-clause-others
returns-in-Some-clause-others c other differs =
    let codecs = c.args.codecs.now.items in
    let item = c.index_mut.result.now in
    let Below : List Rtpmap → Type 0 = λ xs. c.in-Some.place < length xs in
    let Looked : List Rtpmap → Type 0 = λ xs. slice_get xs c.in-Some.place ≡ first (spec.codec_for c.args.format) xs in
    let below = subst Below c.as_slice.ensures.value c.in-Some.ensures.place in
    let looked = subst Looked c.as_slice.ensures.value c.in-Some.ensures.codec in
    let here = slice_get_read codecs _ c.in-Some.place item refl below c.index_mut.ensures.value in
    entry_kept codecs c.args.fmtps.now.items c.row_of.new.fmtps.items c.in-Some.place c.args.format other item c.row_of.new.codec c.args.goes
    below c.index_mut.ensures.value (sym looked ∙ here) c.row_of.ensures.pt c.row_of.ensures.kept c.row_of.ensures.others differs
