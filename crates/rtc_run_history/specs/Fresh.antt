-- Pairs on which no step was performed.
use Rattle.std.specs.Prelude.{◌≡◌, false, [], None, IfSome}
use Rattle.rtc_channels.specs.Channels.{no_channels}
use Rattle.rtc_peer_core.specs.Meanings.{Meanings}
use Rattle.rtc_peer_core.specs.Stance.{Stance}
use Rattle.rtc_run_history.specs.declared.side.Side.{Side}
use Rattle.rtc_run_history.specs.PairState.{PairState, peer_at, stances_of}
use Rattle.rtc_run_history.specs.Views.{AreFormed}

-- There are no rows and no channels, nothing is staged, the counter is 0, no offer is pending, and nothing is known of the other side. The
-- association is not started, and no SNAP INIT chunk is drawn (draft-hancke-tsvwg-snap).
pub record IsJustBuilt (s : Stance) : Type 0 where
  pub lines : s.lines ≡ []
  pub staged : s.staged ≡ []
  pub channels : s.channels ≡ no_channels
  pub counter : s.counter ≡ 0
  pub outstanding : s.outstanding ≡ false
  pub remote : s.ice.remote ≡ None
  pub fingerprint : s.fingerprint ≡ None
  pub uninited : s.inited ≡ false
  pub unstarted : s.snap.started ≡ None
  pub undrawn : IfSome s.snap.pending (λ halves. halves.local ≡ None)

-- both peers were just built, and no stream is in use; no session description was made, no datagram sent, and no step performed
pub record IsFresh {I D S M E X T W N : Type 0} (m : Meanings I D S M E X T W N) (pair : PairState I D S M N) : Type 0 where
  pub built : (at : Side) → IsJustBuilt (stances_of m pair at)
  pub unused : (at : Side) → (peer_at at pair).sctp.entries ≡ []
  pub sdps : pair.sdps ≡ []
  pub packets : pair.packets ≡ []
  pub size : pair.size ≡ 0

-- both peers make session descriptions that are read back
abbrev pub ArePeersFormed : {I D S M E X T W N : Type 0} → Meanings I D S M E X T W N → PairState I D S M N → Type 0
ArePeersFormed m pair = AreFormed (stances_of m pair)
