-- The counts of faults of a peer's DTLS part, media part and association between two moments.
use Rattle.std.proofs.Common.{◌≡◌, ◌≤◌, ◌∙◌, ℕ, Bool, true, false, List, [], ◌∷◌, ◌++◌, Option, Some, None, Result, Ok, Err, refl, sym, ap, subst, arith}
use Rattle.std.specs.declared.alloc.AllocError.{AllocError}
use Rattle.rtc_io.specs.Faults.{Rose}
use Rattle.rtc_parts.specs.declared.dtls_error.DtlsError.{DtlsError}
use Rattle.rtc_parts.specs.declared.dtls_error.DtlsError.TheVariants.{WouldBlock, Fault, Alloc as DtlsAlloc}
use Rattle.rtc_parts.specs.declared.dtls_output.DtlsOutput.{DtlsOutput}
use Rattle.rtc_parts.specs.DtlsActs.{DtlsAct, DtlsMoved, Given, Taken, Sent, Got, Stirred, SendRefused, Showed, TimedAt, Closed as DtlsClosed}
use Rattle.rtc_parts.specs.DtlsDrawn.{DtlsDrawn, DrewPacket, DrewConnected, DrewKeying, DrewCert, DrewData, DrewTimeout, DrewClose}
use Rattle.rtc_parts.specs.DtlsLaws.{DtlsLaws, DtlsAnswered, SendAnswered}
use Rattle.rtc_parts.specs.DtlsMeaning.{DtlsMeaning}
use Rattle.rtc_parts.specs.DtlsState.{DtlsState, HandsOn, SendsData, PollsOutput, GivesPacket, drawn_by}
use Rattle.rtc_parts.specs.DtlsWords.{takes}
use Rattle.rtc_peer_core.specs.declared.rtc_error.RtcError.{RtcError}
use Rattle.rtc_peer_core.specs.Meanings.{Meanings}
use Rattle.rtc_peer_transport.specs.declared.polled_peer.PolledPeer.{PolledPeer}
use Rattle.rtc_run_history.specs.Memory.{CountedPart, DtlsPart, AssociationPart, MediaPart, is_fault_of}
use Rattle.rtc_run_laws.proofs.CountedFaults.{equal_below, rose_along}

-- a count did not fall, and rose where a fault is told
abbrev pub Grows : ℕ → Bool → ℕ → Type 0
Grows before told after = (before ≤ after) × (told ≡ true → Rose before after)

untold : (told : Bool) → told ≡ false → told ≡ true → ⊥
untold told not_told is = absurd (cc)

pub grows_quiet : (before after : ℕ) (told : Bool) → told ≡ false → before ≤ after → Grows before told after
grows_quiet before after told quiet later = (later, λ is. absurd (untold told quiet is))

pub grows_on : (a b c : ℕ) (told : Bool) → a ≤ b → Grows b told c → Grows a told c
grows_on a b c told first rest =
    let last : b ≤ c = rest.0 in
    (omega arith, λ is. rose_along a b c c first (rest.1 is) (omega arith))

pub grows_as : (a b : ℕ) (told same : Bool) → same ≡ told → Grows a told b → Grows a same b
grows_as a b told same is grows = subst (λ (x : Bool). Grows a x b) (sym is) grows

-- whether the answer of a call tells that this part failed
abbrev pub answer_tells : {A : Type 0} → Result A RtcError → CountedPart → Bool
answer_tells (Ok value) part = false
answer_tells (Err error) part = is_fault_of error part

-- ---- the DTLS part

-- whether the answer of its call tells a fault
abbrev pub dtls_tells : Result (Unit {0}) DtlsError → Bool
dtls_tells (Ok done) = false
dtls_tells (Err WouldBlock) = false
dtls_tells (Err Fault) = true
dtls_tells (Err DtlsAlloc) = false

answered_rose : (before after : ℕ) (r : Result (Unit {0}) DtlsError) → DtlsAnswered before after r → dtls_tells r ≡ true → Rose before after
answered_rose before after (Ok done) h told = absurd (cc)
answered_rose before after (Err WouldBlock) h told = absurd h
answered_rose before after (Err Fault) h told = h
answered_rose before after (Err DtlsAlloc) h told = absurd (cc)

module _ {D : Type 0} (dtls : DtlsMeaning D) (laws : DtlsLaws dtls) where
  pub timed_grows : (now : ℕ) (i : D) (r : Result (Unit {0}) DtlsError) (j : D) → dtls.timed i now r j → Grows (dtls.faults i) (dtls_tells r) (dtls.faults j)
  timed_grows now i r j h =
      (laws.faults_rise i j (Stirred (TimedAt now r)) h, λ told. answered_rose (dtls.faults i) (dtls.faults j) r (laws.timed_answer i j now r h) told)

  pub given_grows : (packet : List ℕ) (i : D) (r : Result (Unit {0}) DtlsError) (j : D) → dtls.given i packet r j
      → Grows (dtls.faults i) (dtls_tells r) (dtls.faults j)
  given_grows packet i r j h =
      (laws.faults_rise i j (Given packet) (r, h), λ told. answered_rose (dtls.faults i) (dtls.faults j) r (laws.given_answer i j packet r h) told)

  pub shut_grows : (i : D) (r : Result (Unit {0}) DtlsError) (j : D) → dtls.shut i r j → Grows (dtls.faults i) (dtls_tells r) (dtls.faults j)
  shut_grows i r j h =
      (laws.faults_rise i j (Stirred (DtlsClosed r)) h, λ told. answered_rose (dtls.faults i) (dtls.faults j) r (laws.shut_answer i j r h) told)

  same_instance : (d e : DtlsState D) → e.instance ≡ d.instance → dtls.faults d.instance ≤ dtls.faults e.instance
  same_instance d e same = equal_below (dtls.faults d.instance) (dtls.faults e.instance) (ap (λ (i : D). dtls.faults i) same)

  -- a call that is handed on once there is a role
  pub hands_grow : (d : DtlsState D) (active : Option Bool) (done : D → Result (Unit {0}) DtlsError → D → Type 0) (r : Result (Unit {0}) DtlsError) (e : DtlsState D)
      → ((i : D) (s : Result (Unit {0}) DtlsError) (j : D) → done i s j → Grows (dtls.faults i) (dtls_tells s) (dtls.faults j))
      → HandsOn dtls d active done r e → Grows (dtls.faults d.instance) (dtls_tells r) (dtls.faults e.instance)
  hands_grow d None done r e grows h =
      grows_quiet (dtls.faults d.instance) (dtls.faults e.instance) (dtls_tells r) (ap dtls_tells h.0)
      (same_instance d e (ap (λ (x : DtlsState D). x.instance) h.1))
  hands_grow d (Some active) done r e grows h = grows d.instance r e.instance h.0

  sent_rose : (finished : Bool) (before after : ℕ) (r : Result (Unit {0}) DtlsError) → SendAnswered finished before after r → dtls_tells r ≡ true → Rose before after
  sent_rose finished before after (Ok done) h told = absurd (cc)
  sent_rose finished before after (Err WouldBlock) h told = absurd (cc)
  sent_rose finished before after (Err Fault) h told = h
  sent_rose finished before after (Err DtlsAlloc) h told = absurd (cc)

  sent_later : (bytes : List ℕ) (i : D) (r : Result (Unit {0}) DtlsError) (j : D) → dtls.sent i bytes r j → dtls.faults i ≤ dtls.faults j
  sent_later bytes i (Ok done) j h = laws.faults_rise i j (Sent bytes) h
  sent_later bytes i (Err cause) j h = laws.faults_rise i j (Stirred (SendRefused bytes cause)) h

  -- application data that is handed on where it can go
  pub sends_grow : (can : Bool) (d : DtlsState D) (bytes : List ℕ) (r : Result (Unit {0}) DtlsError) (e : DtlsState D) → SendsData dtls d can bytes r e
      → Grows (dtls.faults d.instance) (dtls_tells r) (dtls.faults e.instance)
  sends_grow true d bytes r e h =
      (sent_later bytes d.instance r e.instance h.0, λ told. sent_rose (dtls.finished d.instance) (dtls.faults d.instance) (dtls.faults e.instance) r (laws.sent_answer d.instance e.instance bytes r h.0) told)
  sends_grow false d bytes r e h =
      grows_quiet (dtls.faults d.instance) (dtls.faults e.instance) (dtls_tells r) (ap dtls_tells h.0) (same_instance d e (ap (λ (x : DtlsState D). x.instance) h.1))

  moved_later : (i : D) (acts : List DtlsAct) (j : D) → DtlsMoved dtls i acts j → dtls.faults i ≤ dtls.faults j
  moved_later i [] j h = equal_below (dtls.faults i) (dtls.faults j) (ap (λ (x : D). dtls.faults x) h)
  moved_later i (act ∷ acts) j h =
      let first : dtls.faults i ≤ dtls.faults h.0 = laws.faults_rise i h.0 act h.1.0 in
      let rest : dtls.faults h.0 ≤ dtls.faults j = moved_later h.0 acts j h.1.1 in
      omega arith

  drawn_later : (drawn : DtlsDrawn) (i j : D) → dtls.polled i drawn j → dtls.faults i ≤ dtls.faults j
  drawn_later (DrewPacket packet) i j h = laws.faults_rise i j (Taken packet) h
  drawn_later DrewConnected i j h = laws.faults_rise i j (Stirred (Showed DrewConnected)) (refl, h)
  drawn_later (DrewKeying key profile) i j h = laws.faults_rise i j (Stirred (Showed (DrewKeying key profile))) (refl, h)
  drawn_later (DrewCert cert) i j h = laws.faults_rise i j (Stirred (Showed (DrewCert cert))) (refl, h)
  drawn_later (DrewData bytes) i j h = laws.faults_rise i j (Got bytes) h
  drawn_later (DrewTimeout moment) i j h = equal_below (dtls.faults i) (dtls.faults j) (ap (λ (x : D). dtls.faults x) (laws.timeout_none i j moment h))
  drawn_later DrewClose i j h = laws.faults_rise i j (Stirred (Showed DrewClose)) (refl, h)

  -- outputs are polled, up to one that is answered
  pub polls_later : (d : DtlsState D) (active : Option Bool) (answer : Result DtlsOutput AllocError) (e : DtlsState D) → PollsOutput dtls d active answer e
      → dtls.faults d.instance ≤ dtls.faults e.instance
  polls_later d None answer e h = same_instance d e (ap (λ (x : DtlsState D). x.instance) h.1)
  polls_later d (Some active) (Ok output) e h =
      let drains = h.0 in
      let first : dtls.faults d.instance ≤ dtls.faults drains.1.0 = moved_later d.instance (takes drains.0) drains.1.0 drains.1.1.0 in
      let last : dtls.faults drains.1.0 ≤ dtls.faults e.instance = drawn_later (drawn_by output) drains.1.0 e.instance drains.1.1.1 in
      omega arith
  polls_later d (Some active) (Err error) e h =
      let drains = h.0 in moved_later d.instance (takes (drains.0 ++ drains.1.0 ∷ [])) e.instance drains.1.1.0

  -- a packet that was queued is given out
  pub gives_later : (d : DtlsState D) (packets : List (List ℕ)) (packet : Option (List ℕ)) (e : DtlsState D) → GivesPacket dtls d packets packet e
      → dtls.faults d.instance ≤ dtls.faults e.instance
  gives_later d [] None e h = same_instance d e (ap (λ (x : DtlsState D). x.instance) h)
  gives_later d [] (Some packet) e h = absurd h
  gives_later d (b ∷ packets) None e h = absurd h
  gives_later d (b ∷ packets) (Some packet) e h = same_instance d e (ap (λ (x : DtlsState D). x.instance) h.1)

-- ---- all parts

module _ {I D S M E X T W N : Type 0} (m : Meanings I D S M E X T W N) where
  abbrev pub dtls_faults : PolledPeer I D S M N → ℕ
  dtls_faults p = m.dtls.faults p.core.dtls.instance

  abbrev pub media_faults : PolledPeer I D S M N → ℕ
  media_faults p = m.media.faults p.core.media

  abbrev pub association_faults : PolledPeer I D S M N → ℕ
  association_faults p = m.association.faults p.core.sctp.association

  -- no count fell
  pub record Later (p q : PolledPeer I D S M N) : Type 0 where
    pub dtls : dtls_faults p ≤ dtls_faults q
    pub media : media_faults p ≤ media_faults q
    pub association : association_faults p ≤ association_faults q

  -- No count fell, and it rose of a part whose fault is told.
  pub record Counts (p : PolledPeer I D S M N) (told : CountedPart → Bool) (q : PolledPeer I D S M N) : Type 0 where
    pub dtls : Grows (dtls_faults p) (told DtlsPart) (dtls_faults q)
    pub media : Grows (media_faults p) (told MediaPart) (media_faults q)
    pub association : Grows (association_faults p) (told AssociationPart) (association_faults q)

  pub later_self : (p : PolledPeer I D S M N) → Later p p
  later_self p = record { dtls = omega arith; media = omega arith; association = omega arith }

  pub later_on : (p q r : PolledPeer I D S M N) → Later p q → Later q r → Later p r
  later_on p q r a b = record { dtls = omega (arith, a.dtls, b.dtls); media = omega (arith, a.media, b.media); association = omega (arith, a.association, b.association) }

  pub later_of : (p : PolledPeer I D S M N) (told : CountedPart → Bool) (q : PolledPeer I D S M N) → Counts p told q → Later p q
  later_of p told q counts = record { dtls = counts.dtls.0; media = counts.media.0; association = counts.association.0 }

  pub counts_on : (p q r : PolledPeer I D S M N) (told : CountedPart → Bool) → Later p q → Counts q told r → Counts p told r
  counts_on p q r told first rest = record {
    dtls = grows_on (dtls_faults p) (dtls_faults q) (dtls_faults r) (told DtlsPart) first.dtls rest.dtls;
    media = grows_on (media_faults p) (media_faults q) (media_faults r) (told MediaPart) first.media rest.media;
    association = grows_on (association_faults p) (association_faults q) (association_faults r) (told AssociationPart) first.association rest.association;
  }

  -- the same where another tells as much
  pub counts_as : (p q : PolledPeer I D S M N) (told same : CountedPart → Bool) → ((part : CountedPart) → same part ≡ told part) → Counts p told q → Counts p same q
  counts_as p q told same is counts = record {
    dtls = grows_as (dtls_faults p) (dtls_faults q) (told DtlsPart) (same DtlsPart) (is DtlsPart) counts.dtls;
    media = grows_as (media_faults p) (media_faults q) (told MediaPart) (same MediaPart) (is MediaPart) counts.media;
    association = grows_as (association_faults p) (association_faults q) (told AssociationPart) (same AssociationPart) (is AssociationPart) counts.association;
  }

  -- nothing is told
  pub quiet_counts : (p q : PolledPeer I D S M N) (told : CountedPart → Bool) → ((part : CountedPart) → told part ≡ false) → Later p q → Counts p told q
  quiet_counts p q told quiet later = record {
    dtls = grows_quiet (dtls_faults p) (dtls_faults q) (told DtlsPart) (quiet DtlsPart) later.dtls;
    media = grows_quiet (media_faults p) (media_faults q) (told MediaPart) (quiet MediaPart) later.media;
    association = grows_quiet (association_faults p) (association_faults q) (told AssociationPart) (quiet AssociationPart) later.association;
  }

  -- ---- parts that stay

  -- the peer has the parts that count their faults from another
  pub record SameParts (n p : PolledPeer I D S M N) : Type 0 where
    pub dtls : n.core.dtls.instance ≡ p.core.dtls.instance
    pub media : n.core.media ≡ p.core.media
    pub association : n.core.sctp.association ≡ p.core.sctp.association

  pub same_dtls : (p q : PolledPeer I D S M N) → q.core.dtls.instance ≡ p.core.dtls.instance → dtls_faults p ≤ dtls_faults q
  same_dtls p q same = equal_below (dtls_faults p) (dtls_faults q) (ap (λ (i : D). m.dtls.faults i) same)

  pub same_media : (p q : PolledPeer I D S M N) → q.core.media ≡ p.core.media → media_faults p ≤ media_faults q
  same_media p q same = equal_below (media_faults p) (media_faults q) (ap (λ (i : M). m.media.faults i) same)

  pub same_association : (p q : PolledPeer I D S M N) → q.core.sctp.association ≡ p.core.sctp.association → association_faults p ≤ association_faults q
  same_association p q same = equal_below (association_faults p) (association_faults q) (ap (λ (i : S). m.association.faults i) same)

  pub same_later : (p n q : PolledPeer I D S M N) → q ≡ n → SameParts n p → Later p q
  same_later p n q is same = record {
    dtls = same_dtls p q (ap (λ (x : PolledPeer I D S M N). x.core.dtls.instance) is ∙ same.dtls);
    media = same_media p q (ap (λ (x : PolledPeer I D S M N). x.core.media) is ∙ same.media);
    association = same_association p q (ap (λ (x : PolledPeer I D S M N). x.core.sctp.association) is ∙ same.association);
  }

  -- nothing is told, and all parts stay
  pub still_counts : (p n q : PolledPeer I D S M N) (told : CountedPart → Bool) → ((part : CountedPart) → told part ≡ false) → q ≡ n → SameParts n p → Counts p told q
  still_counts p n q told quiet is same = quiet_counts p q told quiet (same_later p n q is same)

  -- the DTLS part alone changed
  pub dtls_counts : (p q : PolledPeer I D S M N) (told : CountedPart → Bool) → told AssociationPart ≡ false → told MediaPart ≡ false
      → q.core.sctp.association ≡ p.core.sctp.association → q.core.media ≡ p.core.media → Grows (dtls_faults p) (told DtlsPart) (dtls_faults q) → Counts p told q
  dtls_counts p q told untold_association untold_media association media grows = record {
    dtls = grows;
    media = grows_quiet (media_faults p) (media_faults q) (told MediaPart) untold_media (same_media p q media);
    association = grows_quiet (association_faults p) (association_faults q) (told AssociationPart) untold_association (same_association p q association);
  }

  -- the media part alone changed
  pub media_counts : (p q : PolledPeer I D S M N) (told : CountedPart → Bool) → told AssociationPart ≡ false → told DtlsPart ≡ false
      → q.core.sctp.association ≡ p.core.sctp.association → q.core.dtls.instance ≡ p.core.dtls.instance → Grows (media_faults p) (told MediaPart) (media_faults q) → Counts p told q
  media_counts p q told untold_association untold_dtls association dtls grows = record {
    dtls = grows_quiet (dtls_faults p) (dtls_faults q) (told DtlsPart) untold_dtls (same_dtls p q dtls);
    media = grows;
    association = grows_quiet (association_faults p) (association_faults q) (told AssociationPart) untold_association (same_association p q association);
  }

  -- the association alone changed
  pub association_counts : (p q : PolledPeer I D S M N) (told : CountedPart → Bool) → told DtlsPart ≡ false → told MediaPart ≡ false
      → q.core.dtls.instance ≡ p.core.dtls.instance → q.core.media ≡ p.core.media → Grows (association_faults p) (told AssociationPart) (association_faults q) → Counts p told q
  association_counts p q told untold_dtls untold_media dtls media grows = record {
    dtls = grows_quiet (dtls_faults p) (dtls_faults q) (told DtlsPart) untold_dtls (same_dtls p q dtls);
    media = grows_quiet (media_faults p) (media_faults q) (told MediaPart) untold_media (same_media p q media);
    association = grows;
  }
