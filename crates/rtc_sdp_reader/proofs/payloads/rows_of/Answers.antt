use Rattle.std.proofs.Common.{◌≡◌, ◌+◌, ℕ, eqb, List, drop, get_or, option_and_then, refl, subst}
use Rattle.std.specs.List.{list_any}
use Rattle.std.proofs.lemmas.List.{take_rest}
use Rattle.rtc_sdp_reader.specs.Payloads as spec
use Rattle.rtc_sdp_reader.specs.declared.link.Link.{Link}
use Rattle.rtc_sdp_reader.proofs.RowLemmas.{entries_kept, rows_step}
use Rattle.rtc_sdp_reader.proofs.payloads.rows_of.Goals as goal

pub loop-i-preserved : goal.loop-i-preserved
loop-i-preserved c =
    let formats = c.args.formats.now in
    let i = c.loop-i.i in
    let format = get_or formats i 0 in
    let codecs = c.loop-i.codecs.items in
    let fmtps = c.loop-i.fmtps.items in
    let Made : List Link → Type 0 = λ links. c.in_ok-row.row ≡ option_and_then (spec.payload_row_of links) (spec.entry_of codecs fmtps format) in
    let made = subst Made c.as_slice-in-loop-i.ensures.value c.in_ok-row.ensures.row in
    let Among : List ℕ → Type 0 = λ rest. c.is_among-goes.result ≡ list_any (λ n. eqb n format) rest in
    let among = subst Among (take_rest formats (i + 1)) c.is_among-goes.ensures in
    let same = entries_kept (drop (i + 1) formats) codecs c.format_row.new.codecs.items fmtps c.format_row.new.fmtps.items format c.is_among-goes.result
    among c.in_ok-row.ensures.others in
    rw c.in_ok-push_row.ensures
    (rows_step (spec.payload_row_of c.in_ok-links.links.items) formats i format codecs c.format_row.new.codecs.items fmtps c.format_row.new.fmtps.items
    c.loop-i.rows.items c.in_ok-row.row _ c.loop-i-test.true refl made same c.loop-i.invariant)
