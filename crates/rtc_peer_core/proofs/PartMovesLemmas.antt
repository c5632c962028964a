-- What the moves of the ICE agent and of the DTLS part make of what negotiation reads of them.
use Rattle.std.proofs.Common.{◌≡◌, ◌∙◌, ◌⊎◌, inl, inr, ℕ, Bool, List, [], ◌∷◌, Option, Some, None, Result, Ok, Err, refl, ap}
use Rattle.std.specs.declared.alloc.AllocError.{AllocError}
use Rattle.rtc_sdp_values.specs.declared.candidate.Candidate.{Candidate}
use Rattle.rtc_sdp_values.specs.declared.ice_creds.IceCreds.{IceCreds}
use Rattle.rtc_sdp_values.specs.declared.line_row.LineRow.{LineRow}
use Rattle.rtc_sdp_values.specs.declared.setup.Setup.{Setup}
use Rattle.rtc_parts.specs.IceLaws.{IceLaws}
use Rattle.rtc_parts.specs.IceMeaning.{IceMeaning, IceSettings}
use Rattle.rtc_parts.specs.declared.dtls_error.DtlsError.{DtlsError}
use Rattle.rtc_parts.specs.declared.dtls_error.DtlsError.TheVariants.{Alloc as DtlsAlloc}
use Rattle.rtc_parts.specs.DtlsMeaning.{DtlsMeaning}
use Rattle.rtc_parts.specs.DtlsState.{DtlsState}
use Rattle.rtc_parts.specs.AssociationMeaning.{AssociationMeaning}
use Rattle.rtc_sctp_values.specs.InitHalves.{InitHalves}
use Rattle.rtc_sctp.specs.Streams.{SctpStreams}
use Rattle.rtc_sctp_values.specs.declared.sctp_error.SctpError.{SctpError}
use Rattle.rtc_sctp_values.specs.declared.sctp_error.SctpError.TheVariants.{Alloc as SctpAlloc}
use Rattle.rtc_change.specs.Plans.{no_credentials}
use Rattle.rtc_peer_core.specs.MadeSdp.{creds_in_use, candidates_in_use, role_for, role_after}
use Rattle.rtc_peer_core.specs.PartMoves.{
  RestartsIce,
  TakesCreds,
  TakesCandidates,
  TakesControl,
  FollowsSdp,
  StopsFollowing,
  AtRestart,
  AtCandidate,
  StartsDtls,
  StartsSctp,
  StopsMoving,
  AtAgent,
  AtRole,
  AtStart,
}

-- ---- the ICE agent

-- the settings after a restart, if there is one
abbrev pub restarted_by : Option (IceCreds × Bool) → IceSettings → IceSettings
restarted_by restart s = record s { local = creds_in_use restart s; candidates = candidates_in_use restart s }

-- the settings with the credentials that the other side told, if it told any
abbrev pub told_by : Option IceCreds → IceSettings → IceSettings
told_by None s = s
told_by (Some creds) s = record s { remote = Some creds }

restart_settings : {I : Type 0} (ice : IceMeaning I) → IceLaws ice → (p q : I) (restart : Option (IceCreds × Bool))
    → RestartsIce ice p restart (Ok tt) q → ice.settings q ≡ restarted_by restart (ice.settings p)
restart_settings ice laws p q None h = ap ice.settings h.1
restart_settings ice laws p q (Some restart) h = laws.restart_settings p q restart.0 restart.1 h

no_restart_settings : {I : Type 0} (ice : IceMeaning I) → IceLaws ice → (p q : I) (restart : Option (IceCreds × Bool)) (error : AllocError)
    → RestartsIce ice p restart (Err error) q → ice.settings q ≡ ice.settings p
no_restart_settings ice laws p q None error h = absurd (let e = h.0 in cc)
no_restart_settings ice laws p q (Some restart) error h = laws.restart_refused p q restart.0 restart.1 error h

creds_settings : {I : Type 0} (ice : IceMeaning I) → IceLaws ice → (p q : I) (creds : Option IceCreds) → TakesCreds ice p creds q
    → ice.settings q ≡ told_by creds (ice.settings p)
creds_settings ice laws p q None h = ap ice.settings h
creds_settings ice laws p q (Some creds) h = laws.remote_settings p q creds h

-- what follows a candidate, by the answer that it got
abbrev TakesBehind : {I : Type 0} → IceMeaning I → I → List Candidate → Result (Unit {0}) AllocError → I → Result Bool AllocError → Type 0
TakesBehind ice between candidates r q (Ok taken) = TakesCandidates ice between candidates r q
TakesBehind ice between candidates r q (Err error) = (r ≡ Err error) × (q ≡ between)

-- candidates of the other side are no settings
candidates_settings : {I : Type 0} (ice : IceMeaning I) → IceLaws ice
    → (p q : I) (candidates : List Candidate) (r : Result (Unit {0}) AllocError)
    → TakesCandidates ice p candidates r q → ice.settings q ≡ ice.settings p
candidates_settings ice laws p q [] r h = ap ice.settings h.1
candidates_settings {I} ice laws p q (candidate ∷ candidates) r h =
    by h.0 h.1 (laws.remote_added_settings p h.0 candidate h.1 h.2) (λ later. candidates_settings ice laws h.0 q candidates r later) h.3
  where
    by : (between : I) (answer : Result Bool AllocError) → ice.settings between ≡ ice.settings p
        → (TakesCandidates ice between candidates r q → ice.settings q ≡ ice.settings between)
        → TakesBehind ice between candidates r q answer
        → ice.settings q ≡ ice.settings p
    by between (Ok taken) same later behind = later behind ∙ same
    by between (Err error) same later behind = ap ice.settings behind.1 ∙ same

pub control_settings : {I : Type 0} (ice : IceMeaning I) → IceLaws ice → (p q : I) (control : Option Bool) → TakesControl ice p control q
    → ice.settings q ≡ ice.settings p
control_settings ice laws p q None h = ap ice.settings h
control_settings ice laws p q (Some on) h = laws.controlling_settings p q on h

-- what an agent is set to that followed a session description
pub followed_settings : {I : Type 0} (ice : IceMeaning I) → IceLaws ice
    → (p q : I) (restart : Option (IceCreds × Bool)) (creds : Option IceCreds)
    (candidates : List Candidate) (control : Option Bool) → FollowsSdp ice p restart creds candidates control q
    → ice.settings q ≡ told_by creds (restarted_by restart (ice.settings p))
followed_settings ice laws p q restart creds candidates control h =
    control_settings ice laws h.reachable q control h.by_control
    ∙ candidates_settings ice laws h.told h.reachable candidates (Ok tt) h.by_candidates
    ∙ creds_settings ice laws h.restarted h.told creds h.by_creds
    ∙ ap (told_by creds) (restart_settings ice laws p h.restarted restart h.by_restart)

-- a session description that is not refused told credentials
pub told_creds : (creds : Option IceCreds) (s : IceSettings) → no_credentials creds ≡ None → told_by creds s ≡ record s { remote = creds }
told_creds None s none = absurd (cc)
told_creds (Some creds) s none = refl

-- What is left of settings, wherever the agent stopped as it followed.
pub record AreLeft (s : IceSettings) (restart : Option (IceCreds × Bool)) (t : IceSettings) : Type 0 where
  pub lite : t.lite ≡ s.lite
  pub local : (t.local ≡ s.local) ⊎ (t.local ≡ creds_in_use restart s)
  pub candidates : (t.candidates ≡ s.candidates) ⊎ (t.candidates ≡ candidates_in_use restart s)

pub left_same : (s t : IceSettings) (restart : Option (IceCreds × Bool)) → t ≡ s → AreLeft s restart t
left_same s t restart same = record {
  lite = ap (λ r. r.lite) same;
  local = inl (ap (λ r. r.local) same);
  candidates = inl (ap (λ r. r.candidates) same);
}

left_followed : (s t : IceSettings) (restart : Option (IceCreds × Bool)) (creds : Option IceCreds)
    → t ≡ told_by creds (restarted_by restart s) → AreLeft s restart t
left_followed s t restart None same = record {
  lite = ap (λ r. r.lite) same;
  local = inr (ap (λ r. r.local) same);
  candidates = inr (ap (λ r. r.candidates) same);
}
left_followed s t restart (Some creds) same = record {
  lite = ap (λ r. r.lite) same;
  local = inr (ap (λ r. r.local) same);
  candidates = inr (ap (λ r. r.candidates) same);
}

stopped_settings : {I : Type 0} (ice : IceMeaning I) → IceLaws ice
    → (p q : I) (restart : Option (IceCreds × Bool)) (creds : Option IceCreds)
    (candidates : List Candidate) → StopsFollowing ice p restart creds candidates q → AreLeft (ice.settings p) restart (ice.settings q)
stopped_settings ice laws p q restart creds candidates (AtRestart error stopped) =
    left_same _ _ restart (no_restart_settings ice laws p q restart error stopped)
stopped_settings ice laws p q restart creds candidates (AtCandidate restarted told error by_restart by_creds by_candidates) =
    left_followed _ _ restart creds (
    candidates_settings ice laws told q candidates (Err error) by_candidates
    ∙ creds_settings ice laws restarted told creds by_creds
    ∙ ap (told_by creds) (restart_settings ice laws p restarted restart by_restart)
    )

pub left_after : {I : Type 0} (ice : IceMeaning I) → IceLaws ice → (p q : I) (restart : Option (IceCreds × Bool)) (creds : Option IceCreds)
    (candidates : List Candidate) (control : Option Bool) → FollowsSdp ice p restart creds candidates control q
    → AreLeft (ice.settings p) restart (ice.settings q)
left_after ice laws p q restart creds candidates control follows =
    left_followed _ _ restart creds (followed_settings ice laws p q restart creds candidates control follows)

-- ---- the DTLS part

-- the role that is taken, or that was there
pub role_taken : {D : Type 0} (dtls : DtlsMeaning D) (p q : DtlsState D) (role : Option Bool) (told : Option Setup) (now : ℕ)
    (r : Result (Unit {0}) DtlsError)
    → p.active ≡ role → StartsDtls dtls p role (role_for told) now r q → q.active ≡ Some (role_after role told)
role_taken dtls p q None told now r is h = ap (λ d. d.active) h.rest
role_taken dtls p q (Some role) told now r is h = ap (λ d. d.active) h.1 ∙ is

-- the certificate of this side stays
pub start_keeps_local : {D : Type 0} (dtls : DtlsMeaning D) (p q : DtlsState D) (role : Option Bool) (active : Bool) (now : ℕ)
    (r : Result (Unit {0}) DtlsError)
    → StartsDtls dtls p role active now r q → q.local ≡ p.local
start_keeps_local dtls p q None active now r h = ap (λ d. d.local) h.rest
start_keeps_local dtls p q (Some role) active now r h = ap (λ d. d.local) h.1

-- ---- the parts, where memory lacks at one of them

module _ {I D S : Type 0} (ice : IceMeaning I) (dtls : DtlsMeaning D) (association : AssociationMeaning S) where
  pub left_stopped : IceLaws ice → (i j : I) (d e : DtlsState D) (s t : SctpStreams S) (restart : Option (IceCreds × Bool))
      (creds : Option IceCreds) (candidates : List Candidate) (control : Option Bool) (active : Bool) (rows : List LineRow)
      (client : Bool) (now max : ℕ) (halves : Option InitHalves) (drops : Bool)
      → StopsMoving ice dtls association i d s restart creds candidates control active rows client now max halves drops j e t
      → AreLeft (ice.settings i) restart (ice.settings j)
  left_stopped laws i j d e s t restart creds candidates control active rows client now max halves drops (AtAgent stops same unstarted) =
      stopped_settings ice laws i j restart creds candidates stops
  left_stopped laws i j d e s t restart creds candidates control active rows client now max halves drops (AtRole follows lacks unstarted) =
      left_after ice laws i j restart creds candidates control follows
  left_stopped laws i j d e s t restart creds candidates control active rows client now max halves drops (AtStart follows starts lacks) =
      left_after ice laws i j restart creds candidates control follows

  -- the DTLS part stays, or was started with one answer or another
  pub dtls_stopped : (i j : I) (d e : DtlsState D) (s t : SctpStreams S) (restart : Option (IceCreds × Bool))
      (creds : Option IceCreds) (candidates : List Candidate) (control : Option Bool) (active : Bool) (rows : List LineRow)
      (client : Bool) (now max : ℕ) (halves : Option InitHalves) (drops : Bool)
      → StopsMoving ice dtls association i d s restart creds candidates control active rows client now max halves drops j e t
      → (e ≡ d) ⊎ ((r : Result (Unit {0}) DtlsError) × StartsDtls dtls d d.active active now r e)
  dtls_stopped i j d e s t restart creds candidates control active rows client now max halves drops (AtAgent stops same unstarted) = inl same
  dtls_stopped i j d e s t restart creds candidates control active rows client now max halves drops (AtRole follows lacks unstarted) =
      inr (Err DtlsAlloc, lacks)
  dtls_stopped i j d e s t restart creds candidates control active rows client now max halves drops (AtStart follows starts lacks) =
      inr (Ok tt, starts)

  -- the association stays, or its start was refused
  pub sctp_stopped : (i j : I) (d e : DtlsState D) (s t : SctpStreams S) (restart : Option (IceCreds × Bool))
      (creds : Option IceCreds) (candidates : List Candidate) (control : Option Bool) (active : Bool) (rows : List LineRow)
      (client : Bool) (now max : ℕ) (halves : Option InitHalves) (drops : Bool)
      → StopsMoving ice dtls association i d s restart creds candidates control active rows client now max halves drops j e t
      → (t ≡ s) ⊎ ((error : SctpError) × StartsSctp association s rows client now max halves drops (Err error) t)
  sctp_stopped i j d e s t restart creds candidates control active rows client now max halves drops (AtAgent stops same unstarted) = inl unstarted
  sctp_stopped i j d e s t restart creds candidates control active rows client now max halves drops (AtRole follows lacks unstarted) = inl unstarted
  sctp_stopped i j d e s t restart creds candidates control active rows client now max halves drops (AtStart follows starts lacks) =
      inr (SctpAlloc, lacks)
