use Rattle.std.proofs.Common.{◌≡◌, drop, false}
use Rattle.rtc_peer_rows.specs.Verdict.{first_refusal}
use Rattle.rtc_peer_rows.proofs.judging.judge_lines.Given as goal

-- the lines that are left are refused as all of them are
abbrev pub invariant-loop-place : goal.invariant-loop-place
invariant-loop-place l = first_refusal l.rows l.offer l.came l.place (drop l.place l.lines) ≡ first_refusal l.rows l.offer false 0 l.lines
