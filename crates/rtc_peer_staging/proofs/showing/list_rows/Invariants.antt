use Rattle.std.proofs.Common.{◌≡◌, ◌++◌, drop, map}
use Rattle.rtc_peer_staging.specs.ShownChannels.{numbered_row}
use Rattle.rtc_peer_staging.proofs.showing.list_rows.Given as goal

-- the rows so far, and those of what is left
abbrev pub invariant-loop-row : goal.invariant-loop-row
invariant-loop-row g l =
    l.shown.items ++ map (numbered_row g.S.Association.association l.sctp) (drop l.row-index l.rows)
    ≡ map (numbered_row g.S.Association.association l.sctp) l.rows
