-- The peers of the pair over parts that fail were just built, and make session descriptions that are read back.
use Rattle.std.proofs.Common.{◌≡◌, ◌∙◌, ℕ, Bool, true, false, List, [], ◌∷◌, ◌++◌, None, Result, Ok, Err, refl, sym, ap, subst}
use Rattle.std.specs.Prelude.{IfOk, IfSome, Option}
use Rattle.std.specs.declared.alloc.Global.{Global}
use Rattle.rtc_assoc_state.specs.Calls.{limited}
use Rattle.rtc_assoc_state.specs.Contents.{Contents, fresh_contents, is_started}
use Rattle.rtc_config.specs.RtcConfig.{PeerConfig}
use Rattle.rtc_faulty.specs.declared.faulty.Faulty.{Faulty}
use Rattle.rtc_peer_core.specs.Built.{Builds, allowed_halves, payload_of_mtu, creds_or, session_drawn}
use Rattle.rtc_peer_core.specs.Formats.{config_formats, AreFormedFormats}
use Rattle.rtc_peer_core.specs.Formed.{AreSdpCreds, IsFormed, IsHostCandidate}
use Rattle.rtc_peer_core.specs.Stance.{stance_of}
use Rattle.rtc_plain_ice.specs.Calls.{rto_set, lite_set, local_set, local_added}
use Rattle.rtc_plain_ice.specs.Contents.{IceContents, fresh_ice}
use Rattle.rtc_plain_ice.specs.PlainMeaning.{plain_ice}
use Rattle.rtc_run_history.specs.declared.side.Side.{Side}
use Rattle.rtc_run_history.specs.declared.side.Side.TheVariants.{Left, Right}
use Rattle.rtc_run_history.specs.Fresh.{IsFresh, IsJustBuilt}
use Rattle.rtc_run_history.specs.PairState.{peer_at, stances_of}
use Rattle.rtc_run.specs.ProgramPair.{counting, host_at, program_config}
use Rattle.rtc_run.specs.declared.peer_settings.PeerSettings.{PeerSettings}
use Rattle.rtc_sctp.specs.Streams.{SctpStreams}
use Rattle.rtc_sctp_values.specs.SnapHalves.{KeptHalves, nothing_kept}
use Rattle.rtc_sdp_values.specs.declared.candidate.Candidate.{Candidate}
use Rattle.rtc_sdp_values.specs.declared.ice_creds.IceCreds.{IceCreds}
use Rattle.rtc_wire.specs.declared.addr.Addr.{Addr}
use Rattle.rtc_run_faulty.specs.declared.failing_calls.FailingCalls.{FailingCalls}
use Rattle.rtc_run_faulty.specs.FaultyPairs.{IsFaultyPeer}
use Rattle.rtc_run_faulty.specs.FaultyParts.{
  FaultyCore,
  FaultyPairState,
  faulty_parts,
  fresh_faulty_dtls,
  fresh_faulty_association,
  fresh_faulty_media,
}

abbrev pub IsBuilt : Global → PeerConfig → FailingCalls → ℕ → FaultyCore → Type 0
IsBuilt alloc config failing first p = Builds faulty_parts alloc config 0 fresh_ice (fresh_faulty_dtls failing.dtls)
    (fresh_faulty_association failing.association) (fresh_faulty_media failing.media) first p

-- ---- the agent: no candidate, and nothing of the other side

abbrev set_agent : ℕ → Bool → IceCreds → IceContents
set_agent initial lite creds = local_set creds (lite_set lite (rto_set initial fresh_ice))

set_has_no_candidate : (initial : ℕ) (lite : Bool) (creds : IceCreds) → (set_agent initial lite creds).settings.candidates ≡ []
unfolding local_set lite_set rto_set
set_has_no_candidate initial lite creds = refl

set_knows_nobody : (initial : ℕ) (lite : Bool) (creds : IceCreds) → (set_agent initial lite creds).settings.remote ≡ None
unfolding local_set lite_set rto_set
set_knows_nobody initial lite creds = refl

adding_keeps_remote : (c : Candidate) (p : IceContents) → (local_added c p).settings.remote ≡ p.settings.remote
unfolding local_added
adding_keeps_remote c p = refl

adding_keeps_local : (c : Candidate) (p : IceContents) → (local_added c p).settings.local ≡ p.settings.local
unfolding local_added
adding_keeps_local c p = refl

adding_adds : (c : Candidate) (p : IceContents) → (local_added c p).settings.candidates ≡ p.settings.candidates ++ c ∷ []
unfolding local_added
adding_adds c p = refl

module _ (alloc : Global) (config : PeerConfig) (failing : FailingCalls) (first : ℕ) (p : FaultyCore) (h : IsBuilt alloc config failing first p) where
  agent_is : p.ice ≡ set_agent config.ice.initial_stun_rto config.ice.lite (creds_or counting config.ice.credentials (session_drawn counting first))
  agent_is = h.by_creds ∙ ap (local_set _) (h.by_lite ∙ ap (lite_set config.ice.lite) h.by_rto)

  pub built_has_no_candidate : p.ice.settings.candidates ≡ []
  built_has_no_candidate =
      ap (λ (ice : IceContents). ice.settings.candidates) agent_is ∙ set_has_no_candidate config.ice.initial_stun_rto config.ice.lite _

  built_knows_nobody : p.ice.settings.remote ≡ None
  built_knows_nobody = ap (λ (ice : IceContents). ice.settings.remote) agent_is ∙ set_knows_nobody config.ice.initial_stun_rto config.ice.lite _

-- ---- the association: not started

limited_is_unstarted : (payload max : ℕ) → is_started (limited payload max fresh_contents) ≡ false
unfolding limited
limited_is_unstarted payload max = refl

-- no half of a start by session descriptions is there, whether or not it is allowed
starts_none : (allowed : Bool) (limit : ℕ) → (allowed_halves allowed limit nothing_kept).started ≡ None
starts_none true limit = refl
starts_none false limit = refl

draws_none : (allowed : Bool) (limit : ℕ) → IfSome (allowed_halves allowed limit nothing_kept).pending (λ halves. halves.local ≡ None)
draws_none true limit = refl
draws_none false limit = tt

-- how a peer was built and given its address
pub record Makes (alloc : Global) (settings : PeerSettings) (cert : List ℕ) (first : ℕ) (addr : Addr) (failing : FailingCalls) (config : PeerConfig) (built p : FaultyCore) : Type 0 where
  pub config_is : config ≡ program_config settings cert
  pub builds : IsBuilt alloc config failing first built
  pub added : plain_ice.local_added built.ice (host_at addr) (Ok true) p.ice
  pub rest : p ≡ record built { ice = p.ice }

-- the role on glare is that of the settings
pub faulty_role : (alloc : Global) (settings : PeerSettings) (cert : List ℕ) (first : ℕ) (addr : Addr) (failing : FailingCalls) (p : FaultyCore)
    → IsFaultyPeer alloc settings cert first addr failing p → p.polite ≡ settings.polite
faulty_role alloc settings cert first addr failing p h =
    ap (λ (q : FaultyCore). q.polite) h.rest ∙ ap (λ (q : FaultyCore). q.polite) h.by_build.rest

module _ (alloc : Global) (settings : PeerSettings) (cert : List ℕ) (first : ℕ) (addr : Addr) (failing : FailingCalls) (config : PeerConfig) (built p : FaultyCore)
    (h : Makes alloc settings cert first addr failing config built p) where
  pub faulty_peer : IsFaultyPeer alloc settings cert first addr failing p
  faulty_peer = record {
    built = built;
    by_build = subst (λ (c : PeerConfig). IsBuilt alloc c failing first built) h.config_is h.builds;
    by_address = h.added;
    rest = h.rest;
  }

  streams_are : p.sctp ≡ built.sctp
  streams_are = ap (λ (q : FaultyCore). q.sctp) h.rest

  snap_is : p.sctp.snap ≡ allowed_halves config.sctp.snap_enabled config.sctp.max_message_size nothing_kept
  snap_is = ap (λ (s : SctpStreams (Faulty Contents)). s.snap) (streams_are ∙ h.builds.streams)

  association_unstarted : is_started built.sctp.association.inner ≡ false
  association_unstarted =
      ap is_started h.builds.by_limits.0 ∙ limited_is_unstarted (payload_of_mtu config.mtu.0) config.sctp.max_message_size

  pub faulty_fresh : IsJustBuilt (stance_of faulty_parts p)
  faulty_fresh = record {
    lines = ap (λ (q : FaultyCore). q.lines) h.rest ∙ ap (λ (q : FaultyCore). q.lines) h.builds.rest;
    staged = ap (λ (q : FaultyCore). q.staged) h.rest ∙ ap (λ (q : FaultyCore). q.staged) h.builds.rest;
    channels = ap (λ (q : FaultyCore). q.channels) h.rest ∙ ap (λ (q : FaultyCore). q.channels) h.builds.rest;
    counter = ap (λ (q : FaultyCore). q.counter) h.rest ∙ ap (λ (q : FaultyCore). q.counter) h.builds.rest;
    outstanding = ap (λ (q : FaultyCore). q.outstanding) h.rest ∙ ap (λ (q : FaultyCore). q.outstanding) h.builds.rest;
    remote = ap (λ (ice : IceContents). ice.settings.remote) h.added.1 ∙ adding_keeps_remote (host_at addr) built.ice
        ∙ built_knows_nobody alloc config failing first built h.builds;
    fingerprint = ap (λ (q : FaultyCore). q.fingerprint) h.rest ∙ ap (λ (q : FaultyCore). q.fingerprint) h.builds.rest;
    uninited = ap (λ (s : SctpStreams (Faulty Contents)). is_started s.association.inner) streams_are ∙ association_unstarted;
    unstarted = ap (λ (kept : KeptHalves). kept.started) snap_is ∙ starts_none config.sctp.snap_enabled config.sctp.max_message_size;
    undrawn =
        subst (λ (kept : KeptHalves). IfSome kept.pending (λ halves. halves.local ≡ None)) (sym snap_is)
        (draws_none config.sctp.snap_enabled config.sctp.max_message_size);
  }

  -- no stream is in use
  pub faulty_unused : p.sctp.entries ≡ []
  faulty_unused = ap (λ (s : SctpStreams (Faulty Contents)). s.entries) (streams_are ∙ h.builds.streams)

  pub faulty_formed : (config.ice.credentials ≡ None → AreFormedFormats (config_formats config) → IsFormed (stance_of faulty_parts built))
      → AreFormedFormats (config_formats config) → IsHostCandidate (host_at addr) → IsFormed (stance_of faulty_parts p)
  faulty_formed formed formats host =
      let was : IsFormed (stance_of faulty_parts built) = formed (ap (λ (c : PeerConfig). c.ice.credentials) h.config_is) formats in
      let candidates : p.ice.settings.candidates ≡ host_at addr ∷ [] =
      ap (λ (ice : IceContents). ice.settings.candidates) h.added.1 ∙ adding_adds (host_at addr) built.ice
      ∙ ap (λ (list : List Candidate). list ++ host_at addr ∷ []) (built_has_no_candidate alloc config failing first built h.builds) in
      let creds : p.ice.settings.local ≡ built.ice.settings.local =
      ap (λ (ice : IceContents). ice.settings.local) h.added.1 ∙ adding_keeps_local (host_at addr) built.ice in
      record {
        session = rw (ap (λ (q : FaultyCore). q.session_id) h.rest) was.session;
        creds = rw creds was.creds;
        candidates = rw candidates (host, tt);
        fingerprint = rw (ap (λ (q : FaultyCore). q.dtls) h.rest) was.fingerprint;
        rows = rw (ap (λ (q : FaultyCore). q.lines) h.rest) was.rows;
        staged = rw (ap (λ (q : FaultyCore). q.staged) h.rest) was.staged;
        size = rw (ap (λ (q : FaultyCore). q.sctp) h.rest) was.size;
        changes = rw (ap (λ (q : FaultyCore). q.staged) h.rest) was.changes;
        formats = rw (ap (λ (q : FaultyCore). q.formats) h.rest) was.formats;
        media = rw (ap (λ (q : FaultyCore). q.media) h.rest) was.media;
      }

-- ---- both peers

fresh_at : (pair : FaultyPairState) (at : Side) → IsJustBuilt (stance_of faulty_parts pair.left.core)
    → IsJustBuilt (stance_of faulty_parts pair.right.core) → IsJustBuilt (stances_of faulty_parts pair at)
fresh_at pair Left left right = left
fresh_at pair Right left right = right

unused_at : (pair : FaultyPairState) (at : Side) → pair.left.core.sctp.entries ≡ [] → pair.right.core.sctp.entries ≡ []
    → (peer_at at pair).sctp.entries ≡ []
unused_at pair Left left right = left
unused_at pair Right left right = right

pub faulty_pair_fresh : (pair : FaultyPairState) → IsJustBuilt (stance_of faulty_parts pair.left.core)
    → IsJustBuilt (stance_of faulty_parts pair.right.core) → pair.left.core.sctp.entries ≡ [] → pair.right.core.sctp.entries ≡ []
    → pair.sdps ≡ [] → pair.packets ≡ [] → pair.size ≡ 0 → IsFresh faulty_parts pair
faulty_pair_fresh pair left right left_unused right_unused sdps packets size = record {
  built = λ at. fresh_at pair at left right;
  unused = λ at. unused_at pair at left_unused right_unused;
  sdps = sdps;
  packets = packets;
  size = size;
}

pub faulty_pair_formed : (pair : FaultyPairState) → IsFormed (stance_of faulty_parts pair.left.core)
    → IsFormed (stance_of faulty_parts pair.right.core) → (at : Side) → IsFormed (stances_of faulty_parts pair at)
faulty_pair_formed pair left right Left = left
faulty_pair_formed pair left right Right = right

-- credentials that are drawn are those of session descriptions
pub formed_if_drawn : {R F : Type 0} (creds : Option IceCreds) (built : Result R F) (P : R → Type 0)
    → IfOk built (λ rtc. IfSome creds AreSdpCreds → P rtc) → IfOk built (λ rtc. creds ≡ None → P rtc)
formed_if_drawn creds (Ok rtc) P formed = λ none. formed (subst (λ (c : Option IceCreds). IfSome c AreSdpCreds) (sym none) tt)
formed_if_drawn creds (Err error) P formed = tt
