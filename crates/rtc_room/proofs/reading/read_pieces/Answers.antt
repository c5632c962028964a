use Rattle.std.proofs.Common.{◌≡◌, ◌≢◌, ◌+◌, ◌-◌, ◌^◌, [], ℕ, length, min, ap, ◌∙◌, rules, arith}
use Rattle.std.proofs.lemmas.Bool.Decides.{nat_tests}
use Rattle.std.proofs.lemmas.List.{nil_from_length}
use Rattle.rtc_room.specs.RoomScript.{room_header}
use Rattle.rtc_room.proofs.RefusedScripts.{step_refused, end_refused, script_read}
use Rattle.rtc_room.proofs.reading.read_pieces.Goals as goal

pub returns-in-Err-NotStep-clause-none : goal.returns-in-Err-NotStep-clause-none
returns-in-Err-NotStep-clause-none c =
    let head : c.in-Some.first.now.now ≡ room_header = search rules in
    let number : c.line_number.result ≡ min (c.in-Err-NotStep.place + 2) (2 ^ 32 - 1) = c.line_number.ensures ∙ ap (λ (n : ℕ). min (n + 2) (2 ^ 32 - 1)) c.in-Err-NotStep.place-is in
    step_refused _ _ _ _ _ _ c.in-Some.ensures.cases.0 head (rw c.in-Err-NotStep.field-0-is at c.in-Err-NotStep.ensures.err) number

pub returns-then-not-is_empty-clause-none : goal.returns-then-not-is_empty-clause-none
returns-then-not-is_empty-clause-none c =
    let head : c.in-Some.first.now.now ≡ room_header = search rules in
    let more : c.args.end.now ≢ [] = λ none. let e : length c.args.end.now ≡ 0 = ap length none in grind (arith, nat_tests, c.is_empty.ensures, c.if-not-is_empty.true) in
    end_refused _ _ _ _ _ _ c.in-Some.ensures.cases.0 head c.in-Ok.ensures.ok more c.line_number-then-not-is_empty.ensures

pub returns-clause-some : goal.returns-clause-some
returns-clause-some c =
    let head : c.in-Some.first.now.now ≡ room_header = search rules in
    let none : c.args.end.now ≡ [] = nil_from_length _ (grind (arith, nat_tests, c.is_empty.ensures, c.if-not-is_empty.false)) in
    script_read _ _ _ _ _ c.in-Some.ensures.cases.0 head (rw c.new.ensures c.in-Ok.ensures.ok) none
