use Rattle.std.proofs.Common.{◌++◌, ◌∙◌, ap, List, ℕ, take}
use Rattle.std.specs.Prelude.{string_bytes}
use Rattle.rtc_wire_text.specs.Words.{spaced}
use Rattle.rtc_sdp_writer.specs.MediaRows.{shown_stream}
use Rattle.rtc_sdp_writer.proofs.Orders.{name_put}
use Rattle.rtc_sdp_writer.proofs.StreamLemmas.{new_same, found_more}
use Rattle.rtc_sdp_writer.proofs.semantic_text.put_semantic.Goals as goal

pub loop-i-preserved : goal.loop-i-preserved
loop-i-preserved c =
    let out : List ℕ = string_bytes c.loop-i.out in
    let new : List (List ℕ) → List ℕ = λ (names : List (List ℕ)). out ++ spaced names in
    let same = new_same c.loop-i.found (take c.loop-i.i c.args.lines.now) (shown_stream c.index-lines-i.result) c.loop-i.invariant.found in
    record {
      put = name_put out (string_bytes c.put_new_name.new.out) _ c.args.lines.now c.loop-i.i c.index-lines-i.result c.loop-i-test.true c.index-lines-i.is (c.in_ok-put_new_name.ensures.put ∙ ap new same) c.loop-i.invariant.put;
      found = found_more c.loop-i.found c.put_new_name.new.found c.args.lines.now c.loop-i.i c.index-lines-i.result c.loop-i-test.true c.index-lines-i.is c.loop-i.invariant.found c.in_ok-put_new_name.ensures.found;
    }
