-- What negotiation does to the ICE agent, to the DTLS part and to the association.
use Rattle.std.specs.Prelude.{◌≡◌, ℕ, ◌==◌, nat_lt, Bool, true, false, not, ◌&&◌, ◌||◌, if◌then◌else◌, List, [], ◌∷◌}
use Rattle.std.specs.Prelude.{Option, Some, None, is_some, Result, Ok, Err}
use Rattle.std.specs.declared.alloc.AllocError.{AllocError}
use Rattle.rtc_sdp_values.specs.declared.candidate.Candidate.{Candidate}
use Rattle.rtc_sdp_values.specs.declared.ice_creds.IceCreds.{IceCreds}
use Rattle.rtc_sdp_values.specs.declared.line_row.LineRow.{LineRow}
use Rattle.rtc_peer_rows.specs.Table.{app_of}
use Rattle.rtc_parts.specs.IceMeaning.{IceMeaning}
use Rattle.rtc_parts.specs.declared.dtls_error.DtlsError.{DtlsError}
use Rattle.rtc_parts.specs.declared.dtls_error.DtlsError.TheVariants.{WouldBlock, Fault, Alloc as DtlsAlloc}
use Rattle.rtc_parts.specs.DtlsMeaning.{DtlsMeaning}
use Rattle.rtc_parts.specs.DtlsState.{DtlsState}
use Rattle.rtc_parts.specs.AssociationMeaning.{AssociationMeaning}
use Rattle.rtc_sctp.specs.Calls.{Inits}
use Rattle.rtc_sctp.specs.Streams.{SctpStreams}
use Rattle.rtc_sctp_values.specs.InitHalves.{InitHalves}
use Rattle.rtc_sctp_values.specs.SnapHalves.{KeptHalves, without_pending}
use Rattle.rtc_sctp_values.specs.declared.sctp_error.SctpError.{SctpError}
use Rattle.rtc_sctp_values.specs.declared.sctp_error.SctpError.TheVariants.{Alloc as SctpAlloc}

module _ {I : Type 0} (ice : IceMeaning I) where
  -- the agent is restarted, if there are new credentials
  abbrev pub RestartsIce : I → Option (IceCreds × Bool) → Result (Unit {0}) AllocError → I → Type 0
  RestartsIce p None r q = (r ≡ Ok tt) × (q ≡ p)
  RestartsIce p (Some restart) r q = ice.restarted p restart.0 restart.1 r q

  -- the credentials of the other side are those of its description
  abbrev pub TakesCreds : I → Option IceCreds → I → Type 0
  TakesCreds p None q = q ≡ p
  TakesCreds p (Some creds) q = ice.remote_set p creds q

  -- its candidates are taken in order, up to the first at which memory runs out
  abbrev pub TakesCandidates : I → List Candidate → Result (Unit {0}) AllocError → I → Type 0
  TakesCandidates p [] r q = (r ≡ Ok tt) × (q ≡ p)
  TakesCandidates p (candidate ∷ candidates) r q =
      (between : I) × (answer : Result Bool AllocError) × ice.remote_added p candidate answer between
      × elim answer [
        | Ok taken ↦ TakesCandidates between candidates r q
        | Err error ↦ (r ≡ Err error) × (q ≡ between)
      ]

  -- which side is controlling is set if this is asked
  abbrev pub TakesControl : I → Option Bool → I → Type 0
  TakesControl p None q = q ≡ p
  TakesControl p (Some on) q = ice.controlling_set p on q

  -- The agent follows a session description that is accepted.
  pub record FollowsSdp (p : I) (restart : Option (IceCreds × Bool)) (creds : Option IceCreds) (candidates : List Candidate)
      (control : Option Bool) (q : I) : Type 0 where
    pub restarted : I
    pub told : I
    pub reachable : I
    pub by_restart : RestartsIce p restart (Ok tt) restarted
    pub by_creds : TakesCreds restarted creds told
    pub by_candidates : TakesCandidates told candidates (Ok tt) reachable
    pub by_control : TakesControl reachable control q

  -- Memory runs out as the agent follows a session description: at the restart, or at a candidate.
  pub data StopsFollowing (p : I) (restart : Option (IceCreds × Bool)) (creds : Option IceCreds) (candidates : List Candidate)
      (q : I) : Type 0 where
    AtRestart : (error : AllocError) → RestartsIce p restart (Err error) q → StopsFollowing p restart creds candidates q
    AtCandidate : (restarted told : I) (error : AllocError) → RestartsIce p restart (Ok tt) restarted → TakesCreds restarted creds told
        → TakesCandidates told candidates (Err error) q → StopsFollowing p restart creds candidates q

-- what a side that begins returns, by the result for the packet of no bytes: its fault is ignored
abbrev pub begun_answer : Result (Unit {0}) DtlsError → Result (Unit {0}) DtlsError
begun_answer (Ok done) = Ok tt
begun_answer (Err Fault) = Ok tt
begun_answer (Err WouldBlock) = Err WouldBlock
begun_answer (Err DtlsAlloc) = Err DtlsAlloc

module _ {D : Type 0} (dtls : DtlsMeaning D) where
  -- an active side begins the handshake by a packet of no bytes
  abbrev pub BeginsHandshake : Bool → D → Result (Unit {0}) DtlsError → D → Type 0
  BeginsHandshake false p r q = (r ≡ Ok tt) × (q ≡ p)
  BeginsHandshake true p r q = (answer : Result (Unit {0}) DtlsError) × dtls.given p [] answer q × (r ≡ begun_answer answer)

  -- it begins only once the timer was given the moment
  abbrev pub BeginsTimed : Result (Unit {0}) DtlsError → Bool → D → Result (Unit {0}) DtlsError → D → Type 0
  BeginsTimed (Ok done) active p r q = BeginsHandshake active p r q
  BeginsTimed (Err error) active p r q = (r ≡ Err error) × (q ≡ p)

  -- The first role is taken, with the greatest moment that was given.
  pub record TakesRole (p : DtlsState D) (active : Bool) (now : ℕ) (r : Result (Unit {0}) DtlsError) (q : DtlsState D) : Type 0 where
    pub activated : D
    pub timed : D
    pub answer : Result (Unit {0}) DtlsError
    pub by_role : dtls.activated p.instance active activated
    pub by_time : dtls.timed activated now answer timed
    pub by_packet : BeginsTimed answer active timed r q.instance
    pub rest : q ≡ record p { instance = q.instance; active = Some active }

  -- A role is taken if there is none; the first one is kept.
  abbrev pub StartsDtls : DtlsState D → Option Bool → Bool → ℕ → Result (Unit {0}) DtlsError → DtlsState D → Type 0
  StartsDtls p None active now r q = TakesRole p active now r q
  StartsDtls p (Some role) active now r q = (r ≡ Ok tt) × (q ≡ p)

-- the longest message that the other side takes, by its m-line of data channels: 0 means any length, 32 bits hold no more, and if it has
-- none it is 65536 bytes (RFC 8841, section 6.1)
abbrev pub remote_limit : Option ℕ → ℕ
remote_limit None = 65536
remote_limit (Some size) = if (size == 0) || nat_lt 4294967295 size then 4294967295 else size

-- the pending SNAP INIT chunks may be dropped
abbrev pub dropped_halves : Bool → KeptHalves → KeptHalves
dropped_halves true kept = without_pending kept
dropped_halves false kept = kept

module _ {S : Type 0} (association : AssociationMeaning S) where
  -- whether these rows start the association: one is the m-line of data channels, and nothing started it before
  abbrev pub needs_start : List LineRow → SctpStreams S → Bool
  needs_start rows p = is_some (app_of rows) && not (association.started p.association)

  -- it is started as client or as server, by both SNAP INIT chunks if they are there; pending chunks may be dropped if it is not started
  abbrev pub StartsWhere : Bool → SctpStreams S → (client : Bool) → (now max : ℕ) → Option InitHalves → (drops : Bool)
      → Result (Unit {0}) SctpError → SctpStreams S → Type 0
  StartsWhere false p client now max halves drops r q = (r ≡ Ok tt) × (q ≡ record p { snap = dropped_halves drops p.snap })
  StartsWhere true p client now max halves drops r q = Inits association client now max halves p r q

  -- The first rows with an m-line of data channels start the association.
  abbrev pub StartsSctp : SctpStreams S → List LineRow → (client : Bool) → (now max : ℕ) → Option InitHalves → (drops : Bool)
      → Result (Unit {0}) SctpError → SctpStreams S → Type 0
  StartsSctp p rows client now max halves drops r q = StartsWhere (needs_start rows p) p client now max halves drops r q

-- the three parts that follow a session description
module _ {I D S : Type 0} (ice : IceMeaning I) (dtls : DtlsMeaning D) (association : AssociationMeaning S) where
  -- Memory runs out at one of the parts, which follow in this order: the agent, the DTLS part (at the timer, or at the packet of no bytes),
  -- the association. Those before it have followed, and those behind it are as they were.
  pub data StopsMoving (i : I) (d : DtlsState D) (s : SctpStreams S) (restart : Option (IceCreds × Bool)) (creds : Option IceCreds)
      (candidates : List Candidate) (control : Option Bool) (active : Bool) (rows : List LineRow) (client : Bool) (now max : ℕ)
      (halves : Option InitHalves) (drops : Bool) (j : I) (e : DtlsState D) (t : SctpStreams S) : Type 0 where
    AtAgent : StopsFollowing ice i restart creds candidates j → e ≡ d → t ≡ s
        → StopsMoving i d s restart creds candidates control active rows client now max halves drops j e t
    AtRole : FollowsSdp ice i restart creds candidates control j → StartsDtls dtls d d.active active now (Err DtlsAlloc) e → t ≡ s
        → StopsMoving i d s restart creds candidates control active rows client now max halves drops j e t
    AtStart : FollowsSdp ice i restart creds candidates control j → StartsDtls dtls d d.active active now (Ok tt) e
        → StartsSctp association s rows client now max halves drops (Err SctpAlloc) t
        → StopsMoving i d s restart creds candidates control active rows client now max halves drops j e t
