-- The state of a pair: its two peers, the session descriptions (SDPs) that they made, the tokens that are not spent, and the datagrams
-- that they sent.
use Rattle.std.specs.Prelude.{ℕ, Bool, if◌then◌else◌, List, Option, Some, None, option_map, length, slice_get, slice_set}
use Rattle.rtc_wire.specs.declared.addr.Addr.{Addr}
use Rattle.rtc_wire.specs.declared.transmit.Transmit.{Transmit}
use Rattle.rtc_sdp_values.specs.declared.sdp.Sdp.{Sdp}
use Rattle.rtc_change.specs.PendingOffer.{PendingOffer}
use Rattle.rtc_peer_core.specs.declared.peer.Peer.{Peer}
use Rattle.rtc_peer_core.specs.Meanings.{Meanings}
use Rattle.rtc_peer_core.specs.Stance.{stance_of}
use Rattle.rtc_peer_transport.specs.declared.polled_peer.PolledPeer.{PolledPeer}
use Rattle.rtc_run_history.specs.declared.side.Side.{Side}
use Rattle.rtc_run_history.specs.declared.side.Side.TheVariants.{Left, Right}
use Rattle.rtc_run_history.specs.Sides.{same_side}
use Rattle.rtc_run_history.specs.Signalled.{Signalled, signalled_if}
use Rattle.rtc_run_history.specs.Past.{MadeSdp, sdp_for}
use Rattle.rtc_run_history.specs.Views.{Stances}
use Rattle.rtc_run_history.specs.declared.kept.Kept.{Kept}
use Rattle.rtc_run_history.specs.declared.sent_packet.SentPacket.{SentPacket}

pub record PairState (I D S M N : Type 0) : Type 0 where
  pub left : PolledPeer I D S M N
  pub right : PolledPeer I D S M N
  pub left_addr : Addr
  pub right_addr : Addr
  pub sdps : List Kept
  -- the datagrams that both sides sent, in the order in which they were polled: the place of each is its number
  pub packets : List SentPacket
  -- the sum of the sizes of the steps performed so far
  pub size : ℕ

abbrev pub rtc_at : {I D S M N : Type 0} → Side → PairState I D S M N → PolledPeer I D S M N
rtc_at Left pair = pair.left
rtc_at Right pair = pair.right

abbrev pub peer_at : {I D S M N : Type 0} → Side → PairState I D S M N → Peer I D S M N
peer_at at pair = (rtc_at at pair).core

-- the address of a side
abbrev pub addr_at : {I D S M N : Type 0} → Side → PairState I D S M N → Addr
addr_at Left pair = pair.left_addr
addr_at Right pair = pair.right_addr

-- what negotiation reads of both sides
abbrev pub stances_of : {I D S M E X T W N : Type 0} → Meanings I D S M E X T W N → PairState I D S M N → Stances
stances_of m pair at = stance_of m (peer_at at pair)

-- a kept SDP, without its token
abbrev pub made_sdp : Kept → MadeSdp
made_sdp kept = record { at = kept.at; offer = kept.offer; sdp = kept.sdp }

-- a datagram that was sent, by its side and its length
abbrev pub size_sent : SentPacket → Side × ℕ
size_sent sent = (sent.at, length sent.transmit.contents)

-- the offer (or the answer) of a number, if the other side made it
abbrev pub sent_sdp : Bool → List Kept → Side → ℕ → Option Sdp
sent_sdp offer sdps at k = sdp_for offer at (option_map made_sdp (slice_get sdps k))

-- the same as signalling brings it
abbrev pub kept_remote_sdp : Bool → List Kept → Side → ℕ → Signalled
kept_remote_sdp offer sdps at k = signalled_if (sent_sdp offer sdps at k)

-- a datagram that was sent, if the other side sent it
abbrev pub packet_for : Side → Option SentPacket → Option Transmit
packet_for at None = None
packet_for at (Some sent) = if same_side sent.at at then None else Some sent.transmit

-- the datagram of a number, if the other side sent it
abbrev pub remote_packet : List SentPacket → Side → ℕ → Option Transmit
remote_packet packets at k = packet_for at (slice_get packets k)

-- the unspent token of an offer that this side made
abbrev pub token_for : Side → Option Kept → Option PendingOffer
token_for at None = None
token_for at (Some kept) = if same_side kept.at at then kept.token else None

abbrev pub held_token : List Kept → Side → ℕ → Option PendingOffer
held_token sdps at t = token_for at (slice_get sdps t)

-- the SDPs, with the token of this number spent
abbrev pub spent : ℕ → List Kept → List Kept
spent t sdps = without_token (slice_get sdps t)
  where
    without_token : Option Kept → List Kept
    without_token None = sdps
    without_token (Some kept) = slice_set sdps t (record kept { token = None })
