-- The peer that is built.
use Rattle.rtc_channels.specs.Channels.{no_channels}
use Rattle.std.specs.Prelude.{◌≡◌, ◌-◌, ℕ, Bool, true, false, List, [], Option, Some, None}
use Rattle.std.specs.Int.{to_be_bytes, w64}
use Rattle.std.specs.declared.alloc.Global.{Global}
use Rattle.rtc_sdp_values.specs.declared.ice_creds.IceCreds.{IceCreds}
use Rattle.rtc_parts.specs.DtlsState.{DtlsState, BeginsDtls}
use Rattle.rtc_config.specs.RtcConfig.{PeerConfig}
use Rattle.rtc_sctp_values.specs.SnapHalves.{KeptHalves, nothing_kept, enabled_halves}
use Rattle.rtc_sctp.specs.Streams.{SctpStreams, no_streams}
use Rattle.rtc_peer_core.specs.declared.peer.Peer.{Peer}
use Rattle.rtc_peer_core.specs.declared.formats.Formats.{Formats}
use Rattle.rtc_peer_core.specs.declared.phase.Phase.TheVariants.{Alive}
use Rattle.rtc_peer_core.specs.Creds.{drawn_creds}
use Rattle.rtc_peer_core.specs.Formats.{config_formats}
use Rattle.rtc_peer_core.specs.Meanings.{Meanings}
use Rattle.rtc_parts.specs.Draws.{Draws}

module _ {N : Type 0} (draws : Draws N) where
  -- the credentials that are set, or else those that are drawn
  abbrev pub creds_or : Option IceCreds → N → IceCreds
  creds_or (Some creds) ids = creds
  creds_or None ids = drawn_creds (draws.drawn ids)

  abbrev pub after_creds : Option IceCreds → N → N
  after_creds (Some creds) ids = ids
  after_creds None ids = draws.after ids

  -- the certificate that is set, or else one that is drawn
  abbrev pub cert_or : Option (List ℕ) → N → List ℕ
  cert_or (Some cert) ids = cert
  cert_or None ids = to_be_bytes w64 (draws.drawn ids)

  abbrev pub after_cert : Option (List ℕ) → N → N
  after_cert (Some cert) ids = ids
  after_cert None ids = draws.after ids

  -- the draws of a peer that is built, in their order: the number of its session, its credentials, its certificate
  abbrev pub session_drawn : N → N
  session_drawn ids = draws.after ids

  abbrev pub creds_drawn : PeerConfig → N → N
  creds_drawn config ids = after_creds config.ice.credentials (session_drawn ids)

  abbrev pub cert_drawn : PeerConfig → N → N
  cert_drawn config ids = after_cert config.dtls.cert (creds_drawn config ids)

-- a peer with no rows, no channels and no offer yet, and this role on glare
abbrev pub empty_peer : {I D S M N : Type 0} → Global → Formats → Option Bool → (session start : ℕ) → I → DtlsState D → SctpStreams S
    → M → N → Peer I D S M N
empty_peer alloc formats polite session start ice dtls sctp media ids = record {
  alloc = alloc;
  formats = formats;
  lines = [];
  staged = [];
  undo = [];
  channels = no_channels;
  counter = 0;
  outstanding = false;
  polite = polite;
  session_id = session;
  phase = Alive;
  fingerprint = None;
  greatest = start;
  ice = ice;
  dtls = dtls;
  sctp = sctp;
  media = media;
  ids = ids;
}

-- the greatest packet of the association: of a datagram, 48 bytes are for DTLS and 40 for SCTP
abbrev pub payload_of_mtu : ℕ → ℕ
payload_of_mtu mtu = mtu - 48 - 40

-- streams with the limits of a config: datagrams and messages may be as long, and as many bytes may be buffered, as it says
abbrev pub limited_streams : {S : Type 0} → PeerConfig → (start : ℕ) → S → SctpStreams S
limited_streams config start association =
    record (no_streams config.mtu.0 config.sctp.max_message_size start association) { max_buffered = config.sctp.max_buffered_amount }

-- a start by session descriptions may be allowed, before the association is started
abbrev pub allowed_halves : (allowed : Bool) → (limit : ℕ) → KeptHalves → KeptHalves
allowed_halves true limit kept = enabled_halves false limit kept
allowed_halves false limit kept = kept

-- the streams of a peer of a config
abbrev pub streams_of_config : {S : Type 0} → PeerConfig → (start : ℕ) → S → SctpStreams S
streams_of_config config start association =
    record (limited_streams config start association) {
      snap = allowed_halves config.sctp.snap_enabled config.sctp.max_message_size nothing_kept;
    }

module _ {I D S M E X T W N : Type 0} (m : Meanings I D S M E X T W N) where
  -- parts that are as they were made
  pub record AreFresh (ice : I) (dtls : D) (association : S) (media : M) : Type 0 where
    pub fresh_ice : m.ice.fresh ice
    pub fresh_dtls : m.dtls.fresh dtls
    pub fresh_association : m.association.fresh association
    pub fresh_media : m.media.fresh media

  -- The peer of a config, over these parts: the agent is given the times of its checks, whether it is lite, and the credentials; the DTLS
  -- part its version and the certificate, beside which the sizes of datagrams are kept; the association its limits; the media part its
  -- settings. The codecs and header extensions are those of the config.
  pub record Builds (alloc : Global) (config : PeerConfig) (start : ℕ) (ice : I) (dtls : D) (association : S) (media : M) (ids : N)
      (p : Peer I D S M N) : Type 0 where
    pub timed : I
    pub by_rto : m.ice.rto_set ice config.ice.initial_stun_rto config.ice.max_stun_rto config.ice.max_stun_retransmits timed
    pub lite_set : I
    pub by_lite : m.ice.lite_set timed config.ice.lite lite_set
    pub by_creds : m.ice.local_set lite_set (creds_or m.ids config.ice.credentials (session_drawn m.ids ids)) p.ice
    pub versioned : D
    pub by_version : m.dtls.version_set dtls config.dtls.version versioned
    pub by_cert : BeginsDtls m.dtls (cert_or m.ids config.dtls.cert (creds_drawn m.ids config ids)) versioned config.mtu p.dtls
    pub by_limits : m.association.limits_set association (payload_of_mtu config.mtu.0) config.sctp.max_message_size p.sctp.association
    pub by_settings : m.media.configured media config.media p.media
    pub streams : p.sctp ≡ streams_of_config config start p.sctp.association
    pub rest : p
        ≡ empty_peer alloc (config_formats config) config.polite (m.ids.drawn ids) start p.ice p.dtls p.sctp p.media
        (cert_drawn m.ids config ids)
