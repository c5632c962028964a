-- When a peer wants a timeout, and what for.
use Rattle.std.specs.Prelude.{if◌then◌else◌, ℕ, nat_lt, max, Option, Some, None}
use Rattle.rtc_parts.specs.declared.reason.Reason.{Reason}
use Rattle.rtc_parts.specs.declared.reason.Reason.TheVariants.{DTLS, Ice, Sctp, Channel, Stats as StatsReason}
use Rattle.rtc_sctp.specs.Calls.{streams_wake}
use Rattle.rtc_channels.specs.Openings.{channels_wake}
use Rattle.rtc_peer_core.specs.Meanings.{Meanings}
use Rattle.rtc_peer_transport.specs.declared.polled_peer.PolledPeer.{PolledPeer}
use Rattle.rtc_peer_transport.specs.Statistics.{stats_wake}

-- the sooner of two deadlines, the first of equal ones
abbrev pub sooner : ℕ × Reason → Option (ℕ × Reason) → ℕ × Reason
sooner first None = first
sooner first (Some other) = if nat_lt other.0 first.0 then other else first

-- a moment with what it is for
abbrev pub wanted_for : Reason → Option ℕ → Option (ℕ × Reason)
wanted_for reason None = None
wanted_for reason (Some moment) = Some (moment, reason)

module _ {I D S M E X T W N : Type 0} (m : Meanings I D S M E X T W N) where
  -- the least deadline of DTLS, ICE and media. DTLS has one always: if it wants none, it asks for the moment of what is not to happen
  abbrev pub transport_deadline : PolledPeer I D S M N → ℕ × Reason
  transport_deadline p =
      sooner (sooner (p.transport.dtls_wake, DTLS) (wanted_for Ice (m.ice.wake p.core.ice))) (m.media.wake p.core.media)

  -- The least deadline, with its reason. Of equal ones that of DTLS is first, then that of ICE, of media, of the association with its
  -- streams, of the channels, and of the statistics.
  abbrev pub least_deadline : PolledPeer I D S M N → ℕ × Reason
  least_deadline p =
      sooner
      (sooner
      (sooner (transport_deadline p) (wanted_for Sctp (streams_wake m.association p.core.sctp)))
      (wanted_for Channel (channels_wake m.association p.core.channels p.core.sctp)))
      (wanted_for StatsReason (stats_wake p.transport.stats))

  -- when a timeout is wanted: not before the greatest moment that was taken
  abbrev pub wake_moment : PolledPeer I D S M N → ℕ
  wake_moment p = max p.core.greatest (least_deadline p).0
