-- A peer that is built, put together from the steps of the call.
use Rattle.std.proofs.Common.{◌≡◌, ◌∙◌, ℕ, Bool, false, refl, sym, ap, subst}
use Rattle.std.specs.declared.alloc.Global.{Global}
use Rattle.rtc_parts.specs.DtlsState.{DtlsState, BeginsDtls}
use Rattle.rtc_sctp.specs.Streams.{SctpStreams, no_streams}
use Rattle.rtc_parts.specs.AssociationActs.{Stirred, LimitsSet}
use Rattle.rtc_parts.specs.AssociationMeaning.{AssociationMeaning}
use Rattle.rtc_parts.specs.AssociationLaws.{AssociationLaws}
use Rattle.rtc_parts.specs.Why.{Other}
use Rattle.rtc_config.specs.RtcConfig.{PeerConfig}
use Rattle.rtc_sctp_values.specs.SnapHalves.{KeptHalves, nothing_kept}
use Rattle.rtc_peer_core.specs.declared.peer.Peer.{Peer}
use Rattle.rtc_peer_core.specs.Built.{Builds, empty_peer, creds_or, cert_or, session_drawn, creds_drawn, cert_drawn}
use Rattle.rtc_peer_core.specs.Built.{payload_of_mtu, limited_streams, allowed_halves, streams_of_config}
use Rattle.rtc_peer_core.specs.Formats.{config_formats}
use Rattle.rtc_peer_core.specs.Meanings.{Meanings}

-- streams that were made, with the limits of a config, are those of the config
pub limited : {S : Type 0} (config : PeerConfig) (start mtu size : ℕ) (made sctp : SctpStreams S) → mtu ≡ config.mtu.0
    → size ≡ config.sctp.max_message_size → made ≡ no_streams mtu size start made.association
    → sctp ≡ record made { max_buffered = config.sctp.max_buffered_amount } → sctp ≡ limited_streams config start sctp.association
limited {S} config start mtu size made sctp first is fresh set =
    let same : sctp.association ≡ made.association = ap (λ (s : SctpStreams S). s.association) set in
    set ∙ ap (λ (s : SctpStreams S). record s { max_buffered = config.sctp.max_buffered_amount }) fresh
    ∙ ap (λ (n : ℕ). record (no_streams n size start made.association) { max_buffered = config.sctp.max_buffered_amount }) first
    ∙ ap (λ (n : ℕ). record (no_streams config.mtu.0 n start made.association) { max_buffered = config.sctp.max_buffered_amount }) is
    ∙ ap (λ (a : S). limited_streams config start a) (sym same)

-- a start by session descriptions is then allowed, or is not
pub allowed : {S : Type 0} (config : PeerConfig) (start : ℕ) (on : Bool) (made sctp : SctpStreams S) → on ≡ config.sctp.snap_enabled
    → made ≡ limited_streams config start made.association
    → sctp ≡ record made { snap = allowed_halves on made.local_max made.snap } → sctp ≡ streams_of_config config start sctp.association
allowed {S} config start on made sctp is fresh set =
    let same : sctp.association ≡ made.association = ap (λ (s : SctpStreams S). s.association) set in
    set ∙ ap (λ (s : SctpStreams S). record s { snap = allowed_halves on s.local_max s.snap }) fresh
    ∙ ap (λ (b : Bool). record (limited_streams config start made.association) {
      snap = allowed_halves b config.sctp.max_message_size nothing_kept;
    }) is
    ∙ ap (λ (a : S). streams_of_config config start a) (sym same)

-- which leaves the association
pub allowed_limits : {S : Type 0} (m : AssociationMeaning S) (association : S) (payload most : ℕ) (snap : KeptHalves) (made sctp : SctpStreams S)
    → sctp ≡ record made { snap = snap } → m.limits_set association payload most made.association
    → m.limits_set association payload most sctp.association
allowed_limits {S} m association payload most snap made sctp set limits =
    subst (λ (a : S). m.limits_set association payload most a) (sym (ap (λ (s : SctpStreams S). s.association) set)) limits

-- a fresh association whose limits were set is not started
pub unstarted : {S : Type 0} (m : AssociationMeaning S) → AssociationLaws m → (association : S) (size most : ℕ) (made sctp : SctpStreams S)
    → m.fresh association → sctp ≡ record made { max_buffered = most } → m.limits_set association made.max_payload size made.association
    → m.started sctp.association ≡ false
unstarted {S} m w association size most made sctp fresh set limits =
    ap (λ (s : SctpStreams S). m.started s.association) set
    ∙ (w.same_start association made.association (Stirred Other) refl (LimitsSet made.max_payload size limits)).0
    ∙ w.fresh_not_started association fresh

-- the limits of the association stay those that it was made with
pub limits_kept : {S : Type 0} (m : AssociationMeaning S) (config : PeerConfig) (association : S) (start mtu size most : ℕ) (made sctp : SctpStreams S)
    → mtu ≡ config.mtu.0 → size ≡ config.sctp.max_message_size → made ≡ no_streams mtu size start made.association
    → sctp ≡ record made { max_buffered = most } → m.limits_set association made.max_payload size made.association
    → m.limits_set association (payload_of_mtu config.mtu.0) config.sctp.max_message_size sctp.association
limits_kept {S} m config association start mtu size most made sctp first is fresh set limits =
    subst (λ (n : ℕ). m.limits_set association (payload_of_mtu config.mtu.0) n sctp.association) is
    (subst (λ (a : S). m.limits_set association (payload_of_mtu config.mtu.0) size a) (sym (ap (λ (s : SctpStreams S). s.association) set))
    (subst (λ (n : ℕ). m.limits_set association (payload_of_mtu n) size made.association) first
    (subst (λ (n : ℕ). m.limits_set association n size made.association) (ap (λ (s : SctpStreams S). s.max_payload) fresh) limits)))

-- what the steps of a build did to the parts
pub record BuildSteps {I D S M E X T W N : Type 0} (m : Meanings I D S M E X T W N) (config : PeerConfig) (start : ℕ) (ice : I) (dtls : D)
    (association : S) (media : M) (ids : N) (timed lite_set ready : I) (versioned : D) (begun : DtlsState D) (sctp : SctpStreams S) (set : M) : Type 0 where
  pub rto : m.ice.rto_set ice config.ice.initial_stun_rto config.ice.max_stun_rto config.ice.max_stun_retransmits timed
  pub lite : m.ice.lite_set timed config.ice.lite lite_set
  pub creds : m.ice.local_set lite_set (creds_or m.ids config.ice.credentials (session_drawn m.ids ids)) ready
  pub version : m.dtls.version_set dtls config.dtls.version versioned
  pub cert : BeginsDtls m.dtls (cert_or m.ids config.dtls.cert (creds_drawn m.ids config ids)) versioned config.mtu begun
  pub limits : m.association.limits_set association (payload_of_mtu config.mtu.0) config.sctp.max_message_size sctp.association
  pub settings : m.media.configured media config.media set
  pub streams : sctp ≡ streams_of_config config start sctp.association

pub peer_built : {I D S M E X T W N : Type 0} (m : Meanings I D S M E X T W N) (alloc : Global) (config : PeerConfig) (start : ℕ) (ice : I) (dtls : D) (association : S) (media : M)
    (ids : N) (timed lite_set ready : I) (versioned : D) (begun : DtlsState D) (sctp : SctpStreams S) (set : M) (p : Peer I D S M N)
    → p ≡ empty_peer alloc (config_formats config) config.polite (m.ids.drawn ids) start ready begun sctp set (cert_drawn m.ids config ids)
    → BuildSteps m config start ice dtls association media ids timed lite_set ready versioned begun sctp set
    → Builds m alloc config start ice dtls association media ids p
peer_built {I} {D} {S} {M} {E} {X} {T} {W} {N} m alloc config start ice dtls association media ids timed lite_set ready versioned begun sctp set p is h =
    subst (λ (q : Peer I D S M N). Builds m alloc config start ice dtls association media ids q) (sym is) (record {
      timed = timed;
      by_rto = h.rto;
      lite_set = lite_set;
      by_lite = h.lite;
      by_creds = h.creds;
      versioned = versioned;
      by_version = h.version;
      by_cert = h.cert;
      by_limits = h.limits;
      by_settings = h.settings;
      streams = h.streams;
      rest = refl;
    })
