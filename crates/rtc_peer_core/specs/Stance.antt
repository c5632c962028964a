-- What negotiation reads of a peer, whatever its parts are.
use Rattle.std.specs.Prelude.{ℕ, Bool, List, Option, is_some}
use Rattle.rtc_sdp_values.specs.declared.fingerprint.Fingerprint.{Fingerprint}
use Rattle.rtc_sdp_values.specs.declared.line_row.LineRow.{LineRow}
use Rattle.rtc_parts.specs.IceMeaning.{IceSettings}
use Rattle.rtc_sctp_values.specs.InitHalves.{remote_text}
use Rattle.rtc_sctp_values.specs.SnapHalves.{KeptHalves, text_in}
use Rattle.rtc_channels.specs.Channels.{Channels}
use Rattle.rtc_channels.specs.declared.channel_row.ChannelRow.{ChannelRow}
use Rattle.rtc_change.specs.declared.change.Change.{Change}
use Rattle.rtc_change.specs.Held.{Held}
use Rattle.rtc_parts.specs.declared.media_update.MediaUpdate.{MediaUpdate}
use Rattle.rtc_peer_core.specs.declared.formats.Formats.{Formats}
use Rattle.rtc_peer_core.specs.declared.peer.Peer.{Peer}
use Rattle.rtc_peer_core.specs.ChannelRows.{channel_rows}
use Rattle.rtc_peer_core.specs.Meanings.{Meanings}
use Rattle.rtc_peer_core.specs.Undo.{RowBefore}

pub record Stance : Type 0 where
  pub session : ℕ
  -- the codecs and header extensions that it offers and takes
  pub formats : Formats
  pub lines : List LineRow
  pub staged : List Change
  -- the rows that these changes set or stopped, as they were before
  pub undo : List RowBefore
  pub channels : Channels
  -- the rows that report them
  pub rows : List ChannelRow
  pub counter : ℕ
  -- whether the counter was last raised by an offer of this side whose token was not given yet
  pub outstanding : Bool
  -- the role on glare, if one is set: whether it is the polite one
  pub polite : Option Bool
  -- whether the ICE agent is lite, the credentials of both sides, and the local candidates
  pub ice : IceSettings
  -- the fingerprint of this side's certificate, and the one that the other side announced first
  pub own_fingerprint : Fingerprint
  pub fingerprint : Option Fingerprint
  -- the DTLS role, once it is taken: whether this side begins the handshake
  pub role : Option Bool
  -- the longest message that this side takes, in bytes
  pub max_message_size : ℕ
  -- whether the association is started, and what is kept of starts by session descriptions
  pub inited : Bool
  pub snap : KeptHalves
  -- what the media part has of the line of a mid
  pub line : List ℕ → Option MediaUpdate

abbrev pub stance_of : {I D S M E X T W N : Type 0} → Meanings I D S M E X T W N → Peer I D S M N → Stance
stance_of m p = record {
  session = p.session_id;
  formats = p.formats;
  lines = p.lines;
  staged = p.staged;
  undo = p.undo;
  channels = p.channels;
  rows = channel_rows m.association p.sctp p.channels;
  counter = p.counter;
  outstanding = p.outstanding;
  polite = p.polite;
  ice = m.ice.settings p.ice;
  own_fingerprint = p.dtls.local;
  fingerprint = p.fingerprint;
  role = p.dtls.active;
  max_message_size = p.sctp.local_max;
  inited = m.association.started p.sctp.association;
  snap = p.sctp.snap;
  line = m.media.line p.media;
}

-- the other side's SNAP INIT chunk as text, if the association was started by both chunks
abbrev pub kept_init : KeptHalves → Option (List ℕ)
kept_init kept = text_in remote_text kept.started

-- what an offer or an answer is judged by
abbrev pub held_by : Stance → Held
held_by s = record {
  lines = s.lines;
  lite = s.ice.lite;
  remote_creds = s.ice.remote;
  has_fingerprint = is_some s.fingerprint;
  sctp_inited = s.inited;
  sctp_kept = kept_init s.snap;
}
