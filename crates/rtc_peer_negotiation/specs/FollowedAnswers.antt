-- An answer that is followed, before the channels of its offer are confirmed.
use Rattle.std.specs.Prelude.{Result, Ok, Err}
use Rattle.rtc_sdp_values.specs.declared.sdp.Sdp.{Sdp}
use Rattle.rtc_channels.specs.Channels.{all_confirmed}
use Rattle.rtc_change.specs.PendingOffer.{PendingOffer}
use Rattle.rtc_peer_core.specs.declared.peer.Peer.{Peer}
use Rattle.rtc_peer_core.specs.declared.rtc_error.RtcError.{RtcError}
use Rattle.rtc_peer_core.specs.Acceptances.{AcceptsAnswer}
use Rattle.rtc_peer_core.specs.Calls.{fitting_channels}
use Rattle.rtc_peer_core.specs.Meanings.{Meanings}

module _ {I D S M E X T W N : Type 0} (m : Meanings I D S M E X T W N) where
  -- once they are confirmed it is accepted; one that is refused leaves what an acceptance leaves
  abbrev pub FollowsLentAnswer : Peer I D S M N → PendingOffer → Sdp → Result (Unit {0}) RtcError → Peer I D S M N → Type 0
  FollowsLentAnswer p token answer (Ok done) q =
      AcceptsAnswer m p token answer (Ok done) (record q { channels = all_confirmed (fitting_channels token.changes) q.channels })
  FollowsLentAnswer p token answer (Err error) q = AcceptsAnswer m p token answer (Err error) q
