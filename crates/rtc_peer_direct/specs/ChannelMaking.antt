-- How a user starts the association and makes channels without session descriptions.
use Rattle.std.specs.Prelude.{◌≡◌, ℕ, Bool, true, false, not, Option, None, Result, Ok, Err}
use Rattle.rtc_wire.specs.declared.channel_config.ChannelConfig.{ChannelConfig}
use Rattle.rtc_parts.specs.AssociationMeaning.{AssociationMeaning}
use Rattle.rtc_sctp_values.specs.declared.sctp_error.SctpError.{SctpError}
use Rattle.rtc_sctp_values.specs.InitHalves.{InitHalves}
use Rattle.rtc_channels.specs.Channels.{Channels, is_bad_channel, with_channel, confirmed}
use Rattle.rtc_peer_core.specs.declared.rtc_error.RtcError.{RtcError}
use Rattle.rtc_peer_core.specs.declared.rtc_error.RtcError.TheVariants.{
  RemoteSdp,
  Sdp,
  Dtls,
  Sctp,
  Net,
  Media,
  ChangesOutOfOrder,
  BadChannel,
  Alloc,
  Glare,
}
use Rattle.rtc_peer_core.specs.PartMoves.{StartsWhere, remote_limit}
use Rattle.rtc_peer_core.specs.RtcErrors.{error_of_sctp}
use Rattle.rtc_peer_transport.specs.declared.polled_peer.PolledPeer.{PolledPeer}
use Rattle.rtc_peer_transport.specs.Connection.{with_sctp, with_channels}

-- what a start of the association returns
abbrev pub start_answer : Result (Unit {0}) SctpError → Result (Unit {0}) RtcError
start_answer (Ok done) = Ok tt
start_answer (Err error) = Err (error_of_sctp error)

-- The association is started as client or as server, by both SNAP INIT chunks if they are given, with the greatest moment that was given
-- and the limit of an other side that announces none. If it was started before, it is Ok and nothing changes.
abbrev pub StartsStreams : {I D S M N : Type 0} → AssociationMeaning S → (client : Bool) → Option InitHalves → PolledPeer I D S M N
    → Result (Unit {0}) RtcError → PolledPeer I D S M N → Type 0
StartsStreams association client halves p r q =
    (answer : Result (Unit {0}) SctpError)
    × StartsWhere association (not (association.started p.core.sctp.association)) p.core.sctp client p.core.greatest (remote_limit None)
    halves false answer q.core.sctp
    × (r ≡ start_answer answer)
    × (q ≡ with_sctp q.core.sctp p)

-- the channels with one more, which waits for a stream and is confirmed
abbrev pub with_confirmed : ChannelConfig → Channels → Channels
with_confirmed config held = confirmed held.given config (with_channel held config)

-- A channel is made of a config and confirmed, so that it is opened once it has a stream; or refused, and nothing changes.
abbrev pub CreatesChannel : {I D S M N : Type 0} → ChannelConfig → PolledPeer I D S M N → Result ℕ RtcError → PolledPeer I D S M N
    → Type 0
CreatesChannel config p (Ok id) q =
    (is_bad_channel p.core.channels config ≡ false)
    × (id ≡ p.core.channels.given)
    × (q ≡ with_channels (with_confirmed config p.core.channels) p)
CreatesChannel config p (Err BadChannel) q = (is_bad_channel p.core.channels config ≡ true) × (q ≡ p)
CreatesChannel config p (Err Alloc) q = q ≡ p
CreatesChannel config p (Err (RemoteSdp why)) q = ⊥
CreatesChannel config p (Err (Sdp error)) q = ⊥
CreatesChannel config p (Err (Dtls error)) q = ⊥
CreatesChannel config p (Err (Sctp error)) q = ⊥
CreatesChannel config p (Err (Net cause)) q = ⊥
CreatesChannel config p (Err (Media cause)) q = ⊥
CreatesChannel config p (Err ChangesOutOfOrder) q = ⊥
CreatesChannel config p (Err Glare) q = ⊥
