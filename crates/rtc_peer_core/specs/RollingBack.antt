-- How a peer rolls its own offer back (RFC 8829, section 5.7): by the result of the call, the peer before and the peer after.
use Rattle.std.specs.Prelude.{◌≡◌, ◌≢◌, false, Result, Ok, Err}
use Rattle.rtc_channels.specs.Holds.{all_cancelled}
use Rattle.rtc_change.specs.PendingOffer.{PendingOffer, new_channels}
use Rattle.rtc_peer_rows.specs.RowChanges.{all_restored}
use Rattle.rtc_peer_core.specs.declared.peer.Peer.{Peer}
use Rattle.rtc_peer_core.specs.declared.rtc_error.RtcError.{RtcError}
use Rattle.rtc_peer_core.specs.declared.rtc_error.RtcError.TheVariants.{
  RemoteSdp,
  Sdp as SdpRefused,
  Dtls,
  Sctp,
  Net,
  Media as MediaFailed,
  ChangesOutOfOrder,
  BadChannel,
  Alloc,
  Glare,
}
use Rattle.rtc_peer_core.specs.Calls.{raised}

-- The offer of a token is rolled back, if nothing was offered or accepted since: the rows that were set or stopped for it are as they were,
-- and the channels that were added with it are removed. The counter is raised, and the parts are unchanged.
abbrev pub RollsBack : {I D S M N : Type 0} → Peer I D S M N → PendingOffer → Result (Unit {0}) RtcError → Peer I D S M N → Type 0
RollsBack p token (Ok done) q =
    (p.counter ≡ raised token.id)
    × (q ≡ record p {
      counter = raised p.counter;
      outstanding = false;
      lines = all_restored token.undo p.lines;
      channels = all_cancelled (new_channels token.changes) p.channels;
    })
RollsBack p token (Err ChangesOutOfOrder) q = (p.counter ≢ raised token.id) × (q ≡ p)
RollsBack p token (Err (RemoteSdp why)) q = ⊥
RollsBack p token (Err (SdpRefused error)) q = ⊥
RollsBack p token (Err (Dtls error)) q = ⊥
RollsBack p token (Err (Sctp error)) q = ⊥
RollsBack p token (Err (Net cause)) q = ⊥
RollsBack p token (Err (MediaFailed cause)) q = ⊥
RollsBack p token (Err BadChannel) q = ⊥
RollsBack p token (Err Alloc) q = ⊥
RollsBack p token (Err Glare) q = ⊥
