-- The streams of an association as contracts see them.
use Rattle.std.specs.Prelude.{ℕ, ◌-◌, ◌≤◌, Bool, true, false, All, List, [], length, Option, Some, None}
use Rattle.rtc_sctp.specs.declared.rtc_sctp_state.RtcSctpState.{RtcSctpState}
use Rattle.rtc_sctp.specs.declared.rtc_sctp_state.RtcSctpState.TheVariants.{Uninited, AwaitRemoteAssociation}
use Rattle.rtc_sctp.specs.declared.rtc_sctp_state.RtcSctpState.TheVariants.{AwaitAssociationEstablished, Established}
use Rattle.rtc_sctp_entries.specs.declared.stream_entry.StreamEntry.{StreamEntry}
use Rattle.rtc_sctp_values.specs.SnapHalves.{KeptHalves, nothing_kept}

-- an association, and what is kept of the streams over it
pub record SctpStreams (S : Type 0) : Type 0 where
  pub association : S
  pub state : RtcSctpState
  pub client : Bool
  -- the longest messages that this end and the other one take, and the greatest packet
  pub local_max : ℕ
  pub remote_max : ℕ
  pub max_payload : ℕ
  -- how much may be buffered before nothing is available
  pub max_buffered : ℕ
  -- the moment of the last timeout
  pub last : ℕ
  -- what is kept of starts by session descriptions
  pub snap : KeptHalves
  -- packets that were given out and pushed back
  pub pushed : Option (List (List ℕ))
  -- the streams in use, in order of their numbers
  pub entries : List StreamEntry
  -- the streams whose reset is outstanding
  pub resets : List ℕ
  -- the streams whose completed reset is to be reported
  pub completed : List ℕ
  -- whether a poll gave nothing, and nothing changed since but for packets that were pushed back
  pub rests : Bool

-- each packet that was pushed back is short enough to be sent as application data of DTLS
abbrev pub ArePushedShort : Option (List (List ℕ)) → Type 0
ArePushedShort None = Unit {0}
ArePushedShort (Some packets) = All (λ packet. length packet ≤ 1900) packets

-- nothing is started or in use yet; 48 bytes of a datagram are for DTLS and 40 for SCTP
abbrev pub no_streams : {S : Type 0} → (mtu local_max start : ℕ) → S → SctpStreams S
no_streams mtu local_max start association = record {
  association = association;
  state = Uninited;
  client = false;
  local_max = local_max;
  remote_max = 65536;
  max_payload = mtu - 48 - 40;
  max_buffered = 131072;
  last = start;
  snap = nothing_kept;
  pushed = None;
  entries = [];
  resets = [];
  completed = [];
  rests = false;
}

-- whether timeouts are given to the association, and its wake is read
abbrev pub is_attached : RtcSctpState → Bool
is_attached Uninited = false
is_attached AwaitRemoteAssociation = false
is_attached AwaitAssociationEstablished = true
is_attached Established = true

abbrev pub is_established : RtcSctpState → Bool
is_established Uninited = false
is_established AwaitRemoteAssociation = false
is_established AwaitAssociationEstablished = false
is_established Established = true
