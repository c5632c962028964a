-- The peers of the program were just built, and make session descriptions that are read back.
use Rattle.std.proofs.Common.{◌≡◌, ◌≤◌, ◌∙◌, ◌+◌, ◌*◌, ℕ, Bool, true, false, List, [], ◌∷◌, ◌++◌, Option, None, Result, Ok, Err, refl, sym, ap, subst, arith}
use Rattle.std.specs.Prelude.{IfOk, IfSome, codes}
use Rattle.std.specs.declared.alloc.Global.{Global}
use Rattle.rtc_wire.specs.declared.addr.Addr.{Addr}
use Rattle.rtc_sdp_values.specs.declared.candidate.Candidate.{Candidate}
use Rattle.rtc_sdp_values.specs.declared.ice_creds.IceCreds.{IceCreds}
use Rattle.rtc_plain_ice.specs.Calls.{rto_set, lite_set, local_set, local_added}
use Rattle.rtc_plain_ice.specs.Contents.{IceContents, fresh_ice}
use Rattle.rtc_plain_ice.specs.PlainMeaning.{plain_ice}
use Rattle.rtc_plain_dtls.specs.Contents.{fresh_dtls}
use Rattle.rtc_assoc_state.specs.Calls.{limited}
use Rattle.rtc_assoc_state.specs.Contents.{Contents, fresh_contents, is_started}
use Rattle.rtc_plain_media.specs.MediaContents.{fresh_media}
use Rattle.rtc_sctp.specs.Streams.{SctpStreams}
use Rattle.rtc_sctp_values.specs.SnapHalves.{KeptHalves, nothing_kept}
use Rattle.rtc_config.specs.RtcConfig.{PeerConfig}
use Rattle.rtc_peer_core.specs.Built.{Builds, payload_of_mtu, creds_or, session_drawn, allowed_halves}
use Rattle.rtc_peer_core.specs.Formats.{config_formats, AreFormedFormats}
use Rattle.rtc_peer_core.specs.Formed.{AreSdpCreds, IsFormed, IsHostCandidate}
use Rattle.rtc_peer_core.specs.Stance.{stance_of}
use Rattle.rtc_peer_transport.specs.Connection.{no_transport}
use Rattle.rtc_run_history.specs.declared.side.Side.{Side}
use Rattle.rtc_run_history.specs.declared.side.Side.TheVariants.{Left, Right}
use Rattle.rtc_run_history.specs.Fresh.{IsFresh, IsJustBuilt}
use Rattle.rtc_run_history.specs.PairState.{peer_at, stances_of}
use Rattle.rtc_run.specs.ProgramPair.{PlainPeer, PlainPairState, counting, plain_parts, host_at, left_address, right_address, program_config, IsProgramPeer}
use Rattle.rtc_run.specs.NumberedPair.{IsNumberedPair, default_settings, numbered_address}
use Rattle.rtc_run.specs.declared.peer_settings.PeerSettings.{PeerSettings}

-- no candidate and no credentials of the other side are there after the first three calls
abbrev pub agent_after : ℕ → Bool → IceCreds → IceContents
agent_after initial lite creds = local_set creds (lite_set lite (rto_set initial fresh_ice))

fresh_after : (initial : ℕ) (lite : Bool) (creds : IceCreds) → (agent_after initial lite creds).settings.candidates ≡ []
unfolding local_set lite_set rto_set
fresh_after initial lite creds = refl

alone_after : (initial : ℕ) (lite : Bool) (creds : IceCreds) → (agent_after initial lite creds).settings.remote ≡ None
unfolding local_set lite_set rto_set
alone_after initial lite creds = refl

added_remote : (c : Candidate) (p : IceContents) → (local_added c p).settings.remote ≡ p.settings.remote
unfolding local_added
added_remote c p = refl

added_local : (c : Candidate) (p : IceContents) → (local_added c p).settings.local ≡ p.settings.local
unfolding local_added
added_local c p = refl

added_candidates : (c : Candidate) (p : IceContents) → (local_added c p).settings.candidates ≡ p.settings.candidates ++ c ∷ []
unfolding local_added
added_candidates c p = refl

abbrev pub IsBuilt : Global → PeerConfig → ℕ → PlainPeer → Type 0
IsBuilt alloc config first p = Builds plain_parts alloc config 0 fresh_ice fresh_dtls fresh_contents fresh_media first p

pub built_agent : (alloc : Global) (config : PeerConfig) (first : ℕ) (p : PlainPeer) → IsBuilt alloc config first p
    → p.ice ≡ agent_after config.ice.initial_stun_rto config.ice.lite (creds_or counting config.ice.credentials (session_drawn counting first))
built_agent alloc config first p h = h.by_creds ∙ ap (local_set _) (h.by_lite ∙ ap (lite_set config.ice.lite) h.by_rto)

pub built_bare : (alloc : Global) (config : PeerConfig) (first : ℕ) (p : PlainPeer) → IsBuilt alloc config first p → p.ice.settings.candidates ≡ []
built_bare alloc config first p h =
    ap (λ (ice : IceContents). ice.settings.candidates) (built_agent alloc config first p h) ∙ fresh_after config.ice.initial_stun_rto config.ice.lite _

built_alone : (alloc : Global) (config : PeerConfig) (first : ℕ) (p : PlainPeer) → IsBuilt alloc config first p → p.ice.settings.remote ≡ None
built_alone alloc config first p h =
    ap (λ (ice : IceContents). ice.settings.remote) (built_agent alloc config first p h) ∙ alone_after config.ice.initial_stun_rto config.ice.lite _

-- the association is not started, and of a start by session descriptions no half is there
unstarted_after : (payload max : ℕ) → is_started (limited payload max fresh_contents) ≡ false
unfolding limited
unstarted_after payload max = refl

built_unstarted : (alloc : Global) (config : PeerConfig) (first : ℕ) (p : PlainPeer) → IsBuilt alloc config first p → (stance_of plain_parts p).inited ≡ false
built_unstarted alloc config first p h = ap is_started h.by_limits ∙ unstarted_after (payload_of_mtu config.mtu.0) config.sctp.max_message_size

none_started : (allowed : Bool) (limit : ℕ) → (allowed_halves allowed limit nothing_kept).started ≡ None
none_started true limit = refl
none_started false limit = refl

none_drawn : (allowed : Bool) (limit : ℕ) → IfSome (allowed_halves allowed limit nothing_kept).pending (λ halves. halves.local ≡ None)
none_drawn true limit = refl
none_drawn false limit = tt

built_snap : (alloc : Global) (config : PeerConfig) (first : ℕ) (p : PlainPeer) → IsBuilt alloc config first p
    → p.sctp.snap ≡ allowed_halves config.sctp.snap_enabled config.sctp.max_message_size nothing_kept
built_snap alloc config first p h = ap (λ (s : SctpStreams Contents). s.snap) h.streams

built_unused : (alloc : Global) (config : PeerConfig) (first : ℕ) (p : PlainPeer) → IsBuilt alloc config first p → p.sctp.entries ≡ []
built_unused alloc config first p h = ap (λ (s : SctpStreams Contents). s.entries) h.streams

-- how a peer was built and given its address
pub record Makes (alloc : Global) (settings : PeerSettings) (cert : List ℕ) (first : ℕ) (addr : Addr) (config : PeerConfig) (built p : PlainPeer) : Type 0 where
  pub config_is : config ≡ program_config settings cert
  pub builds : IsBuilt alloc config first built
  pub added : plain_ice.local_added built.ice (host_at addr) (Ok true) p.ice
  pub rest : p ≡ record built { ice = p.ice }

pub program_fresh : (alloc : Global) (settings : PeerSettings) (cert : List ℕ) (first : ℕ) (addr : Addr) (config : PeerConfig) (built p : PlainPeer)
    → Makes alloc settings cert first addr config built p → IsJustBuilt (stance_of plain_parts p)
program_fresh alloc settings cert first addr config built p h =
    let streams : p.sctp ≡ built.sctp = ap (λ (q : PlainPeer). q.sctp) h.rest in
    let snap : p.sctp.snap ≡ allowed_halves config.sctp.snap_enabled config.sctp.max_message_size nothing_kept =
    ap (λ (s : SctpStreams Contents). s.snap) streams ∙ built_snap alloc config first built h.builds in
    record {
      lines = ap (λ (q : PlainPeer). q.lines) h.rest ∙ ap (λ (q : PlainPeer). q.lines) h.builds.rest;
      staged = ap (λ (q : PlainPeer). q.staged) h.rest ∙ ap (λ (q : PlainPeer). q.staged) h.builds.rest;
      channels = ap (λ (q : PlainPeer). q.channels) h.rest ∙ ap (λ (q : PlainPeer). q.channels) h.builds.rest;
      counter = ap (λ (q : PlainPeer). q.counter) h.rest ∙ ap (λ (q : PlainPeer). q.counter) h.builds.rest;
      outstanding = ap (λ (q : PlainPeer). q.outstanding) h.rest ∙ ap (λ (q : PlainPeer). q.outstanding) h.builds.rest;
      remote = ap (λ (ice : IceContents). ice.settings.remote) h.added.1 ∙ added_remote (host_at addr) built.ice ∙ built_alone alloc config first built h.builds;
      fingerprint = ap (λ (q : PlainPeer). q.fingerprint) h.rest ∙ ap (λ (q : PlainPeer). q.fingerprint) h.builds.rest;
      uninited = ap (λ (s : SctpStreams Contents). is_started s.association) streams ∙ built_unstarted alloc config first built h.builds;
      unstarted = ap (λ (kept : KeptHalves). kept.started) snap ∙ none_started config.sctp.snap_enabled config.sctp.max_message_size;
      undrawn = subst (λ (kept : KeptHalves). IfSome kept.pending (λ halves. halves.local ≡ None)) (sym snap) (none_drawn config.sctp.snap_enabled config.sctp.max_message_size);
    }

-- no stream is in use
pub program_unused : (alloc : Global) (settings : PeerSettings) (cert : List ℕ) (first : ℕ) (addr : Addr) (config : PeerConfig) (built p : PlainPeer)
    → Makes alloc settings cert first addr config built p → p.sctp.entries ≡ []
program_unused alloc settings cert first addr config built p h =
    ap (λ (q : PlainPeer). q.sctp.entries) h.rest ∙ built_unused alloc config first built h.builds

pub program_formed : (alloc : Global) (settings : PeerSettings) (cert : List ℕ) (first : ℕ) (addr : Addr) (config : PeerConfig) (built p : PlainPeer)
    → Makes alloc settings cert first addr config built p → (config.ice.credentials ≡ None → AreFormedFormats (config_formats config) → IsFormed (stance_of plain_parts built))
    → AreFormedFormats (config_formats config) → IsHostCandidate (host_at addr) → IsFormed (stance_of plain_parts p)
program_formed alloc settings cert first addr config built p h formed formats host =
    let was : IsFormed (stance_of plain_parts built) = formed (ap (λ (c : PeerConfig). c.ice.credentials) h.config_is) formats in
    let candidates : p.ice.settings.candidates ≡ host_at addr ∷ [] =
    ap (λ (ice : IceContents). ice.settings.candidates) h.added.1 ∙ added_candidates (host_at addr) built.ice
    ∙ ap (λ (list : List Candidate). list ++ host_at addr ∷ []) (built_bare alloc config first built h.builds) in
    let creds : p.ice.settings.local ≡ built.ice.settings.local =
    ap (λ (ice : IceContents). ice.settings.local) h.added.1 ∙ added_local (host_at addr) built.ice in
    record {
      session = rw (ap (λ (q : PlainPeer). q.session_id) h.rest) was.session;
      creds = rw creds was.creds;
      candidates = rw candidates (host, tt);
      fingerprint = rw (ap (λ (q : PlainPeer). q.dtls) h.rest) was.fingerprint;
      rows = rw (ap (λ (q : PlainPeer). q.lines) h.rest) was.rows;
      staged = rw (ap (λ (q : PlainPeer). q.staged) h.rest) was.staged;
      size = rw (ap (λ (q : PlainPeer). q.sctp) h.rest) was.size;
      changes = rw (ap (λ (q : PlainPeer). q.staged) h.rest) was.changes;
      formats = rw (ap (λ (q : PlainPeer). q.formats) h.rest) was.formats;
      media = rw (ap (λ (q : PlainPeer). q.media) h.rest) was.media;
    }

pub left_host : IsHostCandidate (host_at left_address)
left_host = record {
  foundation = refl;
  component = omega arith;
  proto = refl;
  priority = omega arith;
  four = refl;
  bytes = (omega arith, (omega arith, (omega arith, (omega arith, tt))));
  port = omega arith;
  kind = refl;
}

pub right_host : IsHostCandidate (host_at right_address)
right_host = record {
  foundation = refl;
  component = omega arith;
  proto = refl;
  priority = omega arith;
  four = refl;
  bytes = (omega arith, (omega arith, (omega arith, (omega arith, tt))));
  port = omega arith;
  kind = refl;
}

pub numbered_host : (number : ℕ) → number ≤ 255 → IsHostCandidate (host_at (numbered_address number))
numbered_host number small = record {
  foundation = refl;
  component = omega arith;
  proto = refl;
  priority = omega arith;
  four = refl;
  bytes = (omega arith, (omega arith, (omega arith, (small, tt))));
  port = omega arith;
  kind = refl;
}

fresh_at : (pair : PlainPairState) (at : Side) → IsJustBuilt (stance_of plain_parts pair.left.core) → IsJustBuilt (stance_of plain_parts pair.right.core)
    → IsJustBuilt (stances_of plain_parts pair at)
fresh_at pair Left left right = left
fresh_at pair Right left right = right

unused_at : (pair : PlainPairState) (at : Side) → pair.left.core.sctp.entries ≡ [] → pair.right.core.sctp.entries ≡ [] → (peer_at at pair).sctp.entries ≡ []
unused_at pair Left left right = left
unused_at pair Right left right = right

pub pair_fresh : (pair : PlainPairState) → IsJustBuilt (stance_of plain_parts pair.left.core) → IsJustBuilt (stance_of plain_parts pair.right.core)
    → pair.left.core.sctp.entries ≡ [] → pair.right.core.sctp.entries ≡ [] → pair.sdps ≡ [] → pair.packets ≡ [] → pair.size ≡ 0 → IsFresh plain_parts pair
pair_fresh pair left right left_unused right_unused sdps packets size = record {
  built = λ at. fresh_at pair at left right;
  unused = λ at. unused_at pair at left_unused right_unused;
  sdps = sdps;
  packets = packets;
  size = size;
}

pub pair_formed : (pair : PlainPairState) → IsFormed (stance_of plain_parts pair.left.core) → IsFormed (stance_of plain_parts pair.right.core)
    → (at : Side) → IsFormed (stances_of plain_parts pair at)
pair_formed pair left right Left = left
pair_formed pair left right Right = right

-- credentials that are drawn are those of session descriptions
pub formed_without_creds : {R F : Type 0} (creds : Option IceCreds) (built : Result R F) (P : R → Type 0)
    → IfOk built (λ rtc. IfSome creds AreSdpCreds → P rtc) → IfOk built (λ rtc. creds ≡ None → P rtc)
formed_without_creds creds (Ok rtc) P formed = λ none. formed (subst (λ (c : Option IceCreds). IfSome c AreSdpCreds) (sym none) tt)
formed_without_creds creds (Err error) P formed = tt

-- a numbered pair, by peers that were made with such settings
pub numbered_state : (alloc : Global) (number : ℕ) (one two : PeerSettings) (pair : PlainPairState) → one ≡ default_settings → two ≡ default_settings
    → IsProgramPeer alloc one (codes "abc") (2000000 * number + 1) left_address pair.left.core
    → IsProgramPeer alloc two (codes "def") (2000000 * number + 1000001) (numbered_address number) pair.right.core
    → pair.left.transport ≡ no_transport true false one.stats_interval → pair.right.transport ≡ no_transport true false two.stats_interval
    → pair.left_addr ≡ left_address → pair.right_addr ≡ numbered_address number → pair.sdps ≡ [] → pair.packets ≡ [] → pair.size ≡ 0
    → IsNumberedPair alloc number pair
numbered_state alloc number one two pair is is' left right left_transport right_transport left_addr right_addr sdps packets size = record {
  left = subst (λ (s : PeerSettings). IsProgramPeer alloc s (codes "abc") (2000000 * number + 1) left_address pair.left.core) is left;
  right = subst (λ (s : PeerSettings). IsProgramPeer alloc s (codes "def") (2000000 * number + 1000001) (numbered_address number) pair.right.core) is' right;
  left_transport = left_transport ∙ ap (λ (s : PeerSettings). no_transport true false s.stats_interval) is;
  right_transport = right_transport ∙ ap (λ (s : PeerSettings). no_transport true false s.stats_interval) is';
  left_addr = left_addr;
  right_addr = right_addr;
  sdps = sdps;
  packets = packets;
  size = size;
}
