-- What negotiation does to each part, as lists of acts.
use Rattle.std.proofs.Common.{◌≡◌, ◌++◌, ◌∷◌, inl, inr, ℕ, Bool, true, false, List, [], Option, Some, None, Result, Ok, Err, refl, ap, sym, ◌∙◌}
use Rattle.std.specs.declared.alloc.AllocError.{AllocError}
use Rattle.rtc_parts.specs.Why.{Other}
use Rattle.rtc_parts.specs.Among.{Among}
use Rattle.rtc_parts.proofs.AmongLemmas.{among_none, among_self}
use Rattle.rtc_sdp_values.specs.declared.candidate.Candidate.{Candidate}
use Rattle.rtc_sdp_values.specs.declared.ice_creds.IceCreds.{IceCreds}
use Rattle.rtc_parts.specs.IceMeaning.{IceMeaning}
use Rattle.rtc_parts.specs.IceActs.{IceAct, IceCall, IceMoved, IceCalled, Stirred as IceStirred, ControllingSet, RemoteSet, Restarted, RemoteAdded, ice_moved-append, ice_moved-one}
use Rattle.rtc_parts.specs.IceWords.{ice_given, ice_taken}
use Rattle.rtc_parts.proofs.IceLemmas.{ice_given-append, ice_taken-append}
use Rattle.rtc_parts.specs.declared.dtls_error.DtlsError.{DtlsError}
use Rattle.rtc_parts.specs.DtlsMeaning.{DtlsMeaning}
use Rattle.rtc_parts.specs.DtlsActs.{DtlsAct, DtlsMoved, Given, Stirred, Activated, TimedAt}
use Rattle.rtc_parts.specs.DtlsState.{DtlsState}
use Rattle.rtc_parts.specs.DtlsWords.{dtls_given, dtls_taken, dtls_sent, dtls_got}
use Rattle.rtc_parts.specs.AssociationMeaning.{AssociationMeaning}
use Rattle.rtc_parts.specs.declared.media_update.MediaUpdate.{MediaUpdate}
use Rattle.rtc_parts.specs.MediaMeaning.{MediaMeaning}
use Rattle.rtc_parts.specs.MediaActs.{MediaAct, MediaMoved, MediaStirred, Committed, Prepared, media_moved-one}
use Rattle.rtc_sctp_values.specs.declared.sctp_error.SctpError.{SctpError}
use Rattle.rtc_sctp_values.specs.InitHalves.{InitHalves}
use Rattle.rtc_sctp.specs.Streams.{SctpStreams}
use Rattle.rtc_sctp_laws.specs.StreamActs.{CallDid}
use Rattle.rtc_sctp_laws.proofs.CallActs.{inits_did}
use Rattle.rtc_peer_core.specs.PartMoves.{RestartsIce, TakesCreds, TakesCandidates, TakesControl, FollowsSdp, StopsFollowing, AtRestart, AtCandidate}
use Rattle.rtc_peer_core.specs.PartMoves.{BeginsHandshake, BeginsTimed, StartsDtls, StartsWhere, dropped_halves}
use Rattle.rtc_peer_laws.specs.PeerActs.{media_given, media_taken, ice_moments, dtls_moments, media_moments, dtls_roles, first_role, roles_after}
use Rattle.rtc_peer_laws.proofs.ActWords.{ice_moments-append}
use Rattle.rtc_peer_laws.proofs.StreamCallActs.{snap_did}

-- the agent was told something, and gave and took nothing
pub record AgentTold {I : Type 0} (m : IceMeaning I) (i j : I) : Type 0 where
  pub acts : List IceAct
  pub went : IceMoved m i acts j
  pub given : ice_given acts ≡ []
  pub taken : ice_taken acts ≡ []
  pub timed : ice_moments acts ≡ []

both_nil : {A : Type 0} (l xs ys : List A) → l ≡ xs ++ ys → xs ≡ [] → ys ≡ [] → l ≡ []
both_nil l xs ys is e f = is ∙ ap (λ k. k ++ ys) e ∙ f

module _ {I : Type 0} (m : IceMeaning I) where
  pub agent_none : (i j : I) → j ≡ i → AgentTold m i j
  agent_none i j is = record { acts = []; went = is; given = refl; taken = refl; timed = refl }

  agent_on : (i j k : I) → AgentTold m i j → AgentTold m j k → AgentTold m i k
  agent_on i j k a b = record {
    acts = a.acts ++ b.acts;
    went = ice_moved-append m i j k a.acts b.acts a.went b.went;
    given = both_nil (ice_given (a.acts ++ b.acts)) (ice_given a.acts) (ice_given b.acts) (ice_given-append a.acts b.acts) a.given b.given;
    taken = both_nil (ice_taken (a.acts ++ b.acts)) (ice_taken a.acts) (ice_taken b.acts) (ice_taken-append a.acts b.acts) a.taken b.taken;
    timed = both_nil (ice_moments (a.acts ++ b.acts)) (ice_moments a.acts) (ice_moments b.acts) (ice_moments-append a.acts b.acts) a.timed b.timed;
  }

  pub agent_call : (i j : I) (call : IceCall) → IceCalled m i call j → ice_moments (IceStirred call ∷ []) ≡ [] → AgentTold m i j
  agent_call i j call h timed =
      record { acts = IceStirred call ∷ []; went = ice_moved-one m i j (IceStirred call) h; given = refl; taken = refl; timed = timed }

  restarts_told : (i : I) (restart : Option (IceCreds × Bool)) (r : Result (Unit {0}) AllocError) (j : I) → RestartsIce m i restart r j → AgentTold m i j
  restarts_told i None r j h = agent_none i j h.1
  restarts_told i (Some restart) r j h = agent_call i j (Restarted restart.0 restart.1 r) h refl

  creds_told : (i : I) (creds : Option IceCreds) (j : I) → TakesCreds m i creds j → AgentTold m i j
  creds_told i None j h = agent_none i j h
  creds_told i (Some creds) j h = agent_call i j (RemoteSet creds) h refl

  pub control_told : (i : I) (control : Option Bool) (j : I) → TakesControl m i control j → AgentTold m i j
  control_told i None j h = agent_none i j h
  control_told i (Some on) j h = agent_call i j (ControllingSet on) h refl

  candidates_told : (i : I) (candidates : List Candidate) (r : Result (Unit {0}) AllocError) (j : I) → TakesCandidates m i candidates r j → AgentTold m i j
  candidates_told i [] r j h = agent_none i j h.1
  candidates_told i (candidate ∷ candidates) r j (between, Ok taken, added, rest) =
      agent_on i between j (agent_call i between (RemoteAdded candidate (Ok taken)) added refl) (candidates_told between candidates r j rest)
  candidates_told i (candidate ∷ candidates) r j (between, Err error, added, rest) =
      agent_on i between j (agent_call i between (RemoteAdded candidate (Err error)) added refl) (agent_none between j rest.1)

  pub follows_told : (i : I) (restart : Option (IceCreds × Bool)) (creds : Option IceCreds) (candidates : List Candidate) (control : Option Bool) (j : I)
      → FollowsSdp m i restart creds candidates control j → AgentTold m i j
  follows_told i restart creds candidates control j h =
      agent_on i h.restarted j (restarts_told i restart (Ok tt) h.restarted h.by_restart)
      (agent_on h.restarted h.told j (creds_told h.restarted creds h.told h.by_creds)
      (agent_on h.told h.reachable j (candidates_told h.told candidates (Ok tt) h.reachable h.by_candidates)
      (control_told h.reachable control j h.by_control)))

  pub stops_told : (i : I) (restart : Option (IceCreds × Bool)) (creds : Option IceCreds) (candidates : List Candidate) (j : I)
      → StopsFollowing m i restart creds candidates j → AgentTold m i j
  stops_told i restart creds candidates j (AtRestart error h) = restarts_told i restart (Err error) j h
  stops_told i restart creds candidates j (AtCandidate restarted told error by_restart by_creds by_candidates) =
      agent_on i restarted j (restarts_told i restart (Ok tt) restarted by_restart)
      (agent_on restarted told j (creds_told restarted creds told by_creds) (candidates_told told candidates (Err error) j by_candidates))

-- the DTLS part was told something: of packets it was given one of no bytes at most
pub record ConnectionTold {D : Type 0} (m : DtlsMeaning D) (now : ℕ) (d e : DtlsState D) : Type 0 where
  pub acts : List DtlsAct
  pub went : DtlsMoved m d.instance acts e.instance
  pub given : Among (dtls_given acts) ([] ∷ [])
  pub taken : dtls_taken acts ≡ []
  pub sent : dtls_sent acts ≡ []
  pub got : dtls_got acts ≡ []
  pub timed : Among (dtls_moments acts) (now ∷ [])
  pub packets : e.packets ≡ d.packets
  pub role : e.active ≡ roles_after d.active (dtls_roles acts)

module _ {D : Type 0} (m : DtlsMeaning D) where
  pub connection_none : (now : ℕ) (d e : DtlsState D) → e ≡ d → ConnectionTold m now d e
  connection_none now d e is = record {
    acts = [];
    went = ap (λ (x : DtlsState D). x.instance) is;
    given = among_none ([] ∷ []);
    taken = refl;
    sent = refl;
    got = refl;
    timed = among_none (now ∷ []);
    packets = ap (λ (x : DtlsState D). x.packets) is;
    role = ap (λ (x : DtlsState D). x.active) is;
  }

  -- a role, a moment, and what follows
  role_told : (now : ℕ) (active : Bool) (d e : DtlsState D) (activated timed : D) (answer : Result (Unit {0}) DtlsError) → m.activated d.instance active activated
      → m.timed activated now answer timed → e.instance ≡ timed → e.packets ≡ d.packets → e.active ≡ first_role d.active active
      → ConnectionTold m now d e
  role_told now active d e activated timed answer role time is queue first = record {
    acts = Stirred (Activated active) ∷ Stirred (TimedAt now answer) ∷ [];
    went = (activated, (role, (timed, (time, is))));
    given = among_none ([] ∷ []);
    taken = refl;
    sent = refl;
    got = refl;
    timed = among_self (now ∷ []);
    packets = queue;
    role = first;
  }

  begins_told : (now : ℕ) (active begins : Bool) (d e : DtlsState D) (activated timed : D) (answer r : Result (Unit {0}) DtlsError)
      → m.activated d.instance active activated → m.timed activated now answer timed → BeginsHandshake m begins timed r e.instance
      → e.packets ≡ d.packets → e.active ≡ first_role d.active active → ConnectionTold m now d e
  begins_told now active false d e activated timed answer r role time h queue first = role_told now active d e activated timed answer role time h.1 queue first
  begins_told now active true d e activated timed answer r role time h queue first = record {
    acts = Stirred (Activated active) ∷ Stirred (TimedAt now answer) ∷ Given [] ∷ [];
    went = (activated, (role, (timed, (time, (e.instance, ((h.0, h.1), refl))))));
    given = among_self ([] ∷ []);
    taken = refl;
    sent = refl;
    got = refl;
    timed = among_self (now ∷ []);
    packets = queue;
    role = first;
  }

  timed_told : (now : ℕ) (active : Bool) (d e : DtlsState D) (activated timed : D) (answer r : Result (Unit {0}) DtlsError)
      → m.activated d.instance active activated → m.timed activated now answer timed → BeginsTimed m answer active timed r e.instance
      → e.packets ≡ d.packets → e.active ≡ first_role d.active active → ConnectionTold m now d e
  timed_told now active d e activated timed (Ok done) r role time h queue first =
      begins_told now active active d e activated timed (Ok done) r role time h queue first
  timed_told now active d e activated timed (Err error) r role time h queue first =
      role_told now active d e activated timed (Err error) role time h.1 queue first

  pub starts_told : (role : Option Bool) (active : Bool) (now : ℕ) (r : Result (Unit {0}) DtlsError) (d e : DtlsState D) → d.active ≡ role
      → StartsDtls m d role active now r e → ConnectionTold m now d e
  starts_told None active now r d e is h =
      timed_told now active d e h.activated h.timed h.answer r h.by_role h.by_time h.by_packet (ap (λ (x : DtlsState D). x.packets) h.rest)
      (ap (λ (x : DtlsState D). x.active) h.rest ∙ ap (λ (o : Option Bool). first_role o active) (sym is))
  starts_told (Some first) active now r d e is h = connection_none now d e h.1

-- the streams were started, or not
pub started_told : {S : Type 0} (m : AssociationMeaning S) (b client : Bool) (now max : ℕ) (halves : Option InitHalves) (drops : Bool)
    (p : SctpStreams S) (r : Result (Unit {0}) SctpError) (q : SctpStreams S) → StartsWhere m b p client now max halves drops r q
    → CallDid m [] [] p q
started_told m false client now max halves drops p r q h = snap_did m (dropped_halves drops p.snap) p q h.1
started_told m true client now max halves drops p r q h = inits_did m client now max halves p r q h

-- the media part was told something
pub record MediaTold {M E X T W : Type 0} (m : MediaMeaning M E X T W) (a b : M) : Type 0 where
  pub acts : List MediaAct
  pub went : MediaMoved m a acts b
  pub given : media_given acts ≡ []
  pub taken : media_taken acts ≡ []
  pub timed : media_moments acts ≡ []

module _ {M E X T W : Type 0} (m : MediaMeaning M E X T W) where
  pub media_none : (a b : M) → b ≡ a → MediaTold m a b
  media_none a b is = record { acts = []; went = is; given = refl; taken = refl; timed = refl }

  pub media_prepared : (updates : List MediaUpdate) (r : Result (Unit {0}) AllocError) (a b : M) → m.prepared a updates r b → MediaTold m a b
  media_prepared updates r a b h = record {
    acts = MediaStirred Other ∷ [];
    went = media_moved-one m a b (MediaStirred Other) (inr (inr (Prepared updates r h)));
    given = refl;
    taken = refl;
    timed = refl;
  }

  pub media_updated : (updates : List MediaUpdate) (a c b : M) → m.prepared a updates (Ok tt) c → m.committed c b → MediaTold m a b
  media_updated updates a c b h k = record {
    acts = MediaStirred Other ∷ MediaStirred Other ∷ [];
    went = (c, (inr (inr (Prepared updates (Ok tt) h)), (b, (inl (Committed k), refl))));
    given = refl;
    taken = refl;
    timed = refl;
  }
