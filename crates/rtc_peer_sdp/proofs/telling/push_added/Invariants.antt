use Rattle.std.proofs.Common.{◌≡◌, ◌++◌, ◌+◌, drop, length}
use Rattle.rtc_change.specs.PendingOffer.{added_mids}
use Rattle.rtc_peer_core.specs.MadeSdp.{added_told}
use Rattle.rtc_peer_sdp.proofs.telling.push_added.Given as goal

abbrev pub invariant-loop-change : goal.invariant-loop-change
invariant-loop-change l =
    record {
      rows : l.told.items ++ added_told l.formats l.place (drop l.change-index l.staged)
          ≡ l.fn.told.items ++ added_told l.formats l.first l.staged;
      count : l.place + length (added_mids (drop l.change-index l.staged)) ≡ l.first + length (added_mids l.staged);
    }
