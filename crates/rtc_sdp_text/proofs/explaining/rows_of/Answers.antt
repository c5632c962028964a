-- Each turn puts the row of the next line, and goes over it.
use Rattle.std.proofs.Common.{ℕ, List, length, string_bytes}
use Rattle.std.proofs.lemmas.Iterator.Splits.{YieldsList-from_lines}
use Rattle.std.proofs.lemmas.Iterator.Consumers.{YieldsList-turn, YieldsList-end}
use Rattle.std.proofs.lemmas.List.{length_push}
use Rattle.rtc_wire_text.specs.Lines.{lines}
use Rattle.rtc_sdp_text.specs.Explanation.{begun, rows_from}
use Rattle.rtc_sdp_text.proofs.RowSteps.{goes_on, ends_here, ends_behind}
use Rattle.rtc_sdp_text.proofs.explaining.rows_of.Goals as goal

pub returns-then-is_last : goal.returns-then-is_last
returns-then-is_last c =
    let turn = YieldsList-turn (YieldsList-from_lines c.args.text.now (cc)) c.loop-line.yielded _ c.loop-line.yielded_by _ _ c.in-Some.line c.in-Some.is c.next.ensures.steps in
    let at : ℕ = length c.loop-line.yielded in
    let all : List (List ℕ) = lines c.args.text.now in
    ends_here (string_bytes c.loop-line.out) (string_bytes c.put_next.new.out) c.loop-line.walk all at c.in-Some.line.now (rows_from (begun c.args.refused) all) turn (cc) c.loop-line.invariant.2 c.in_ok-put_next.ensures.row

pub loop-line-preserved : goal.loop-line-preserved
loop-line-preserved c =
    let turn = YieldsList-turn (YieldsList-from_lines c.args.text.now (cc)) c.loop-line.yielded _ c.loop-line.yielded_by _ _ c.in-Some.line c.in-Some.is c.next.ensures.steps in
    let at : ℕ = length c.loop-line.yielded in
    let all : List (List ℕ) = lines c.args.text.now in
    let total : List ℕ = rows_from (begun c.args.refused) all in (
      tt,
      tt,
      rw (length_push c.loop-line.yielded c.in-Some.line)
          (goes_on (string_bytes c.loop-line.out) (string_bytes c.put_next.new.out) c.loop-line.walk c.put_next.new.walk all at c.in-Some.line.now total turn (cc) c.loop-line.invariant.2 c.in_ok-put_next.ensures.row c.in_ok-put_next.ensures.walk),
    )

pub returns : goal.returns
returns c =
    let end = YieldsList-end (YieldsList-from_lines c.args.text.now (cc)) c.loop-line.yielded _ c.loop-line.yielded_by _ _ c.in-None.is c.next.ensures.steps in
    ends_behind (string_bytes c.loop-line.out) (string_bytes c.put_end.new.out) c.loop-line.walk (lines c.args.text.now) (length c.loop-line.yielded) (rows_from (begun c.args.refused) (lines c.args.text.now)) end.1 c.loop-line.invariant.2 c.in_ok-put_end.ensures
