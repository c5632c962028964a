use Rattle.std.proofs.Common.{◌≡◌, drop}
use Rattle.rtc_peer_rows.specs.RowChanges.{all_restored}
use Rattle.rtc_peer_negotiation.proofs.rolling_back.restore_rows.Given as goal

-- what is left to restore makes the rows that all of it makes
abbrev pub invariant-loop-was : goal.invariant-loop-was
invariant-loop-was l = all_restored (drop l.was-index l.undo) l.lines ≡ all_restored l.undo l.initial.lines
