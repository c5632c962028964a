-- The count of faults of a DTLS part or an association never falls as its peer starts it, and rises where that tells a fault.
use Rattle.std.proofs.Common.{◌≡◌, ◌≤◌, ◌+◌, ◌-◌, ◌^◌, ◌⊎◌, inl, inr, ℕ, Bool, true, false, List, [], Option, Some, None, Result, Ok, Err, sym, ap, subst, arith}
use Rattle.std.specs.Prelude.{min}
use Rattle.rtc_io.specs.Faults.{Rose}
use Rattle.rtc_parts.specs.declared.dtls_error.DtlsError.{DtlsError}
use Rattle.rtc_parts.specs.declared.dtls_error.DtlsError.TheVariants.{WouldBlock, Fault, Alloc as DtlsAlloc}
use Rattle.rtc_parts.specs.DtlsActs.{Given, Stirred, Activated, TimedAt}
use Rattle.rtc_parts.specs.DtlsLaws.{DtlsLaws, DtlsAnswered}
use Rattle.rtc_parts.specs.DtlsMeaning.{DtlsMeaning}
use Rattle.rtc_parts.specs.DtlsState.{DtlsState}
use Rattle.rtc_sdp_values.specs.declared.line_row.LineRow.{LineRow}
use Rattle.rtc_parts.specs.Why.{Other}
use Rattle.rtc_parts.specs.declared.assoc_error.AssocError.{AssocError}
use Rattle.rtc_parts.specs.declared.assoc_error.AssocError.TheVariants as assoc
use Rattle.rtc_parts.specs.AssociationActs.{Started, Stirred as AssociationStirred, ByConnect, ByAccept, BySnap}
use Rattle.rtc_parts.specs.AssociationActs.{ConnectRefused, AcceptRefused, SnapRefused}
use Rattle.rtc_parts.specs.AssociationLaws.{AssociationLaws}
use Rattle.rtc_parts.specs.AssociationMeaning.{AssociationMeaning}
use Rattle.rtc_parts.specs.AssociationNeeds.{Answered}
use Rattle.rtc_sctp_entries.specs.declared.asked.Asked.{Asked}
use Rattle.rtc_sctp_entries.specs.declared.asked.Asked.TheVariants as did
use Rattle.rtc_sctp_entries.specs.Answers.{asked_of}
use Rattle.rtc_sctp_entries.specs.Part.{StartedAs}
use Rattle.rtc_sctp.specs.Calls.{AsksInit, Inits}
use Rattle.rtc_sctp_values.specs.InitHalves.{InitHalves, half_bytes}
use Rattle.rtc_sctp.specs.Streams.{SctpStreams}
use Rattle.rtc_sctp_values.specs.declared.proto_error.ProtoError.TheVariants as proto
use Rattle.rtc_sctp_values.specs.declared.sctp_error.SctpError.{SctpError}
use Rattle.rtc_sctp_values.specs.declared.sctp_error.SctpError.TheVariants as sctp
use Rattle.rtc_peer_core.specs.PartMoves.{begun_answer, BeginsHandshake, BeginsTimed, TakesRole, StartsDtls}
use Rattle.rtc_run_history.specs.Memory.{CountedPart, DtlsPart, AssociationPart, MediaPart}
use Rattle.rtc_peer_core.specs.PartMoves.{needs_start, StartsWhere, StartsSctp}

-- what holds of each part that counts its faults
pub by_part : (P : CountedPart → Type 0) → P DtlsPart → P AssociationPart → P MediaPart → (part : CountedPart) → P part
by_part P dtls association media DtlsPart = dtls
by_part P dtls association media AssociationPart = association
by_part P dtls association media MediaPart = media

-- an equal count did not fall
pub equal_below : (before after : ℕ) → after ≡ before → before ≤ after
equal_below before after same = omega (arith, same)

-- a count that rose between two moments rose from an earlier one to a later one
pub rose_along : (a b c d : ℕ) → a ≤ b → Rose b c → c ≤ d → Rose a d
rose_along a b c d first rose last = let mid : min (b + 1) (2 ^ 64 - 1) ≤ c = rose in omega arith

module _ {D : Type 0} (dtls : DtlsMeaning D) (laws : DtlsLaws dtls) where
  same_faults : (p q : D) → q ≡ p → dtls.faults p ≤ dtls.faults q
  same_faults p q same = let e : dtls.faults q ≡ dtls.faults p = ap dtls.faults same in omega arith

  handshake_later : (active : Bool) (r : Result (Unit {0}) DtlsError) (p q : D) → BeginsHandshake dtls active p r q → dtls.faults p ≤ dtls.faults q
  handshake_later true r p q h = laws.faults_rise p q (Given []) (h.0, h.1)
  handshake_later false r p q h = same_faults p q h.1

  begins_later : (answer r : Result (Unit {0}) DtlsError) (active : Bool) (p q : D) → BeginsTimed dtls answer active p r q → dtls.faults p ≤ dtls.faults q
  begins_later (Ok done) r active p q h = handshake_later active r p q h
  begins_later (Err error) r active p q h = same_faults p q h.1

  role_later : (p : DtlsState D) (active : Bool) (now : ℕ) (r : Result (Unit {0}) DtlsError) (q : DtlsState D) → TakesRole dtls p active now r q
      → dtls.faults p.instance ≤ dtls.faults q.instance
  role_later p active now r q h =
      let first : dtls.faults p.instance ≤ dtls.faults h.activated = laws.faults_rise p.instance h.activated (Stirred (Activated active)) h.by_role in
      let next : dtls.faults h.activated ≤ dtls.faults h.timed = laws.faults_rise h.activated h.timed (Stirred (TimedAt now h.answer)) h.by_time in
      let last : dtls.faults h.timed ≤ dtls.faults q.instance = begins_later h.answer r active h.timed q.instance h.by_packet in
      omega arith

  -- a fault that is told is the timer's
  no_fault : (answer : Result (Unit {0}) DtlsError) → Err Fault ≡ begun_answer answer → ⊥
  no_fault (Ok done) is = cc
  no_fault (Err Fault) is = cc
  no_fault (Err WouldBlock) is = cc
  no_fault (Err DtlsAlloc) is = cc

  timer_fault : (answer : Result (Unit {0}) DtlsError) (active : Bool) (p q : D) → BeginsTimed dtls answer active p (Err Fault) q → answer ≡ Err Fault
  timer_fault (Ok done) true p q h = absurd (no_fault h.0 h.2)
  timer_fault (Ok done) false p q h = absurd (let e = h.0 in cc)
  timer_fault (Err error) active p q h = sym h.0

  role_fault : (p : DtlsState D) (active : Bool) (now : ℕ) (q : DtlsState D) → TakesRole dtls p active now (Err Fault) q
      → Rose (dtls.faults p.instance) (dtls.faults q.instance)
  role_fault p active now q h =
      let told : h.answer ≡ Err Fault = timer_fault h.answer active h.timed q.instance h.by_packet in
      let rose : Rose (dtls.faults h.activated) (dtls.faults h.timed) =
      subst (λ (r : Result (Unit {0}) DtlsError). DtlsAnswered (dtls.faults h.activated) (dtls.faults h.timed) r) told
      (laws.timed_answer h.activated h.timed now h.answer h.by_time) in
      rose_along (dtls.faults p.instance) (dtls.faults h.activated) (dtls.faults h.timed) (dtls.faults q.instance)
      (laws.faults_rise p.instance h.activated (Stirred (Activated active)) h.by_role) rose
      (begins_later h.answer (Err Fault) active h.timed q.instance h.by_packet)

  -- the count never falls
  pub start_later : (p q : DtlsState D) (role : Option Bool) (active : Bool) (now : ℕ) (r : Result (Unit {0}) DtlsError) → StartsDtls dtls p role active now r q
      → dtls.faults p.instance ≤ dtls.faults q.instance
  start_later p q None active now r h = role_later p active now r q h
  start_later p q (Some role) active now r h = same_faults p.instance q.instance (ap (λ (d : DtlsState D). d.instance) h.1)

  -- a fault is told only where the count rose
  pub start_fault : (p q : DtlsState D) (role : Option Bool) (active : Bool) (now : ℕ) → StartsDtls dtls p role active now (Err Fault) q
      → Rose (dtls.faults p.instance) (dtls.faults q.instance)
  start_fault p q None active now h = role_fault p active now q h
  start_fault p q (Some role) active now h = absurd (let e = h.0 in cc)

  -- the count never falls where memory lacks
  pub stop_later : (p q : DtlsState D) (active : Bool) (now : ℕ) → (q ≡ p) ⊎ ((r : Result (Unit {0}) DtlsError) × StartsDtls dtls p p.active active now r q)
      → dtls.faults p.instance ≤ dtls.faults q.instance
  stop_later p q active now (inl same) = same_faults p.instance q.instance (ap (λ (d : DtlsState D). d.instance) same)
  stop_later p q active now (inr starts) = start_later p q p.active active now starts.0 starts.1

-- ---- the association

-- a start that is refused tells a fault, since nothing else refuses it
pub answered_fault : (before after : ℕ) (r : Result (Unit {0}) AssocError) → asked_of r ≡ did.Refused → Answered None before after r → Rose before after
answered_fault before after (Ok done) is h = absurd (cc)
answered_fault before after (Err assoc.StreamExists) is h = absurd (let e = h.0 in cc)
answered_fault before after (Err assoc.ResetPending) is h = absurd (let e = h.0 in cc)
answered_fault before after (Err assoc.NoStream) is h = absurd (let e = h.0 in cc)
answered_fault before after (Err assoc.TooLong) is h = absurd (let e = h.0 in cc)
answered_fault before after (Err assoc.Closing) is h = absurd (let e = h.0 in cc)
answered_fault before after (Err assoc.Fault) is h = h
answered_fault before after (Err assoc.Alloc) is h = absurd (cc)

module _ {S : Type 0} (association : AssociationMeaning S) (laws : AssociationLaws association) where
  started_later : (client : Bool) (p q : S) (now max : ℕ) (r : Result (Unit {0}) AssocError) → association.started p ≡ false
      → StartedAs association client p now max r q → association.faults p ≤ association.faults q
  started_later true p q now max (Ok done) fresh h = laws.faults_rise p q Started (fresh, ByConnect now max h)
  started_later true p q now max (Err error) fresh h = laws.faults_rise p q (AssociationStirred Other) (ConnectRefused now max error fresh h)
  started_later false p q now max (Ok done) fresh h = laws.faults_rise p q Started (fresh, ByAccept now max h)
  started_later false p q now max (Err error) fresh h = laws.faults_rise p q (AssociationStirred Other) (AcceptRefused now max error fresh h)

  started_fault : (client : Bool) (p q : S) (now max : ℕ) (r : Result (Unit {0}) AssocError) → asked_of r ≡ did.Refused
      → StartedAs association client p now max r q → Rose (association.faults p) (association.faults q)
  started_fault true p q now max r is h = answered_fault (association.faults p) (association.faults q) r is (laws.connect_answer p q now max r h)
  started_fault false p q now max r is h = answered_fault (association.faults p) (association.faults q) r is (laws.accept_answer p q now max r h)

  snap_later : (p q : S) (now max : ℕ) (local remote : List ℕ) (r : Result (Unit {0}) AssocError) → association.started p ≡ false
      → association.connected_snap p now max local remote r q → association.faults p ≤ association.faults q
  snap_later p q now max local remote (Ok done) fresh h = laws.faults_rise p q Started (fresh, BySnap now max local remote h)
  snap_later p q now max local remote (Err error) fresh h =
      laws.faults_rise p q (AssociationStirred Other) (SnapRefused now max local remote error fresh h)

  -- a start as client or as server, or by the chunks of both sides
  asked_later : (halves : Option InitHalves) (client : Bool) (p q : S) (now max : ℕ) (answer : Asked) → association.started p ≡ false
      → AsksInit association halves client p now max answer q → association.faults p ≤ association.faults q
  asked_later None client p q now max answer fresh h = started_later client p q now max h.result fresh h.called
  asked_later (Some halves) client p q now max answer fresh h =
      snap_later p q now max (half_bytes halves.local) (half_bytes halves.remote) h.1.result fresh h.1.called

  asked_fault : (halves : Option InitHalves) (client : Bool) (p q : S) (now max : ℕ)
      → AsksInit association halves client p now max did.Refused q → Rose (association.faults p) (association.faults q)
  asked_fault None client p q now max h = started_fault client p q now max h.result h.is h.called
  asked_fault (Some halves) client p q now max h =
      answered_fault (association.faults p) (association.faults q) h.1.result h.1.is
      (laws.snap_answer p q now max (half_bytes halves.local) (half_bytes halves.remote) h.1.result h.1.called)

  same_association : (p q : SctpStreams S) → q ≡ p → association.faults p.association ≤ association.faults q.association
  same_association p q same =
      let e : association.faults q.association ≡ association.faults p.association = ap (λ (s : SctpStreams S). association.faults s.association) same in omega arith

  inits_later : (client : Bool) (now max : ℕ) (halves : Option InitHalves) (p : SctpStreams S) (r : Result (Unit {0}) SctpError) (q : SctpStreams S)
      → Inits association client now max halves p r q
      → association.faults p.association ≤ association.faults q.association
  inits_later client now max halves p (Ok done) q h = asked_later halves client p.association q.association now max did.Done h.0 h.1
  inits_later client now max halves p (Err (sctp.Proto proto.Started)) q h = same_association p q h.1
  inits_later client now max halves p (Err (sctp.Proto proto.SnapHalf)) q h = same_association p q h.2
  inits_later client now max halves p (Err (sctp.Proto proto.Fault)) q h = asked_later halves client p.association q.association now max did.Refused h.0 h.1
  inits_later client now max halves p (Err sctp.Alloc) q h = asked_later halves client p.association q.association now max did.OutOfMemory h.0 h.1
  inits_later client now max halves p (Err error) q h = absurd h

  where_later : (needed : Bool) (p : SctpStreams S) (client : Bool) (now max : ℕ) (halves : Option InitHalves) (drops : Bool)
      (r : Result (Unit {0}) SctpError) (q : SctpStreams S) → StartsWhere association needed p client now max halves drops r q → association.faults p.association ≤ association.faults q.association
  where_later false p client now max halves drops r q h =
      let e : association.faults q.association ≡ association.faults p.association = ap (λ (s : SctpStreams S). association.faults s.association) h.1 in omega arith
  where_later true p client now max halves drops r q h = inits_later client now max halves p r q h

  where_fault : (needed : Bool) (p : SctpStreams S) (client : Bool) (now max : ℕ) (halves : Option InitHalves) (drops : Bool) (q : SctpStreams S)
      → StartsWhere association needed p client now max halves drops (Err (sctp.Proto proto.Fault)) q → Rose (association.faults p.association) (association.faults q.association)
  where_fault false p client now max halves drops q h = absurd (let e = h.0 in cc)
  where_fault true p client now max halves drops q h = asked_fault halves client p.association q.association now max h.1

  -- the count never falls
  pub sctp_later : (p q : SctpStreams S) (rows : List LineRow) (client : Bool) (now max : ℕ) (halves : Option InitHalves) (drops : Bool)
      (r : Result (Unit {0}) SctpError) → StartsSctp association p rows client now max halves drops r q → association.faults p.association ≤ association.faults q.association
  sctp_later p q rows client now max halves drops r h = where_later (needs_start association rows p) p client now max halves drops r q h

  -- a fault is told only where the count rose
  pub sctp_fault : (p q : SctpStreams S) (rows : List LineRow) (client : Bool) (now max : ℕ) (halves : Option InitHalves) (drops : Bool)
      → StartsSctp association p rows client now max halves drops (Err (sctp.Proto proto.Fault)) q → Rose (association.faults p.association) (association.faults q.association)
  sctp_fault p q rows client now max halves drops h = where_fault (needs_start association rows p) p client now max halves drops q h

  -- the count never falls where memory lacks
  pub sctp_stop_later : (p q : SctpStreams S) (rows : List LineRow) (client : Bool) (now max : ℕ) (halves : Option InitHalves) (drops : Bool)
      → (q ≡ p) ⊎ ((error : SctpError) × StartsSctp association p rows client now max halves drops (Err error) q)
      → association.faults p.association ≤ association.faults q.association
  sctp_stop_later p q rows client now max halves drops (inl same) = same_association p q same
  sctp_stop_later p q rows client now max halves drops (inr starts) = sctp_later p q rows client now max halves drops (Err starts.0) starts.1
