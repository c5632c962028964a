-- A media part that fails at listed calls keeps the laws of every media part.
use Rattle.std.proofs.Common.{
  ℕ,
  ◌≡◌,
  ◌≢◌,
  ◌+◌,
  ◌<◌,
  ◌≤◌,
  ◌⊎◌,
  inl,
  inr,
  suc,
  Bool,
  true,
  false,
  List,
  Option,
  Some,
  None,
  Result,
  Ok,
  Err,
  refl,
  sym,
  ap,
  ◌∙◌,
  arith,
}
use Rattle.rtc_io.specs.Faults.{Rose}
use Rattle.rtc_sdp_values.specs.declared.ssrc.Ssrc.{Ssrc}
use Rattle.rtc_parts.specs.Why.{Timed, Shut}
use Rattle.rtc_parts.specs.declared.media_error.MediaError.{MediaError}
use Rattle.rtc_parts.specs.declared.media_error.MediaError.TheVariants.{Rtp, Alloc}
use Rattle.rtc_parts.specs.MediaMeaning.{MediaMeaning, held_media}
use Rattle.rtc_parts.specs.MediaActs.{
  MediaAct,
  MediaGiven,
  MediaTaken,
  MediaStirred,
  MediaActed,
  KeepsLines,
  ByGiven,
  ByTaken,
  ByTime,
  ByShut,
  ByLoan,
  ByOther,
  changes_pending,
}
use Rattle.rtc_parts.specs.MediaLaws.{MediaLaws, SameLines, UsesStream}
use Rattle.rtc_faulty.specs.declared.faulty.Faulty.{Faulty}
use Rattle.rtc_faulty.specs.Numbering.{is_failing, faults_ahead}
use Rattle.rtc_faulty.specs.FaultyCalls.{CanFail}
use Rattle.rtc_faulty.specs.FaultyLemmas.{
  rose_inside,
  rose_outside,
  later_inside,
  later_outside,
  never_fault,
  failed_or_reached,
  reaches-numbers,
  reaches_same,
}
use Rattle.rtc_faulty.specs.RowLemmas.{ahead_fails, ahead_ends, fails_none}
use Rattle.rtc_faulty.specs.FaultyMedia.{faulty_media}
use Rattle.rtc_faulty.specs.FaultyMediaActs.{media_loan_inside, media_stir_inside, media_act_inside}

-- what is held: events e, datagrams d and later faults f, before and after
fewer_held : (e d f e' d' f' : ℕ) → f' ≡ f → e' + d' < e + d → e' + f' + d' < e + f + d
fewer_held e d f e' d' f' same less = omega arith

no_more_held : (e d f e' d' f' : ℕ) → f' ≡ f → e' + d' ≤ e + d → e' + f' + d' ≤ e + f + d
no_more_held e d f e' d' f' same less = omega arith

bounded_held : (e d f e' d' f' n : ℕ) → f' ≡ f → e' + d' ≤ e + d + n → e' + f' + d' ≤ e + f + d + n
bounded_held e d f e' d' f' n same less = omega arith

fault_held : (e d f e' d' f' : ℕ) → f ≡ suc f' → e' ≡ e → d' ≡ d → e' + f' + d' < e + f + d
fault_held e d f e' d' f' more events datagrams = omega arith

module _ {M E X T W : Type 0} (m : MediaMeaning M E X T W) (w : MediaLaws m) where
  abbrev Whole : MediaMeaning (Faulty M) E X T W
  Whole = faulty_media m

  -- lines
  same_inside : (p q : Faulty M) → SameLines m p.inner q.inner → SameLines Whole p q
  same_inside p q s = record { lines = s.lines; used = s.used }

  uses_inside : (p q : Faulty M) (ssrc : Ssrc) (rtx : Option Ssrc) → UsesStream m p.inner ssrc rtx q.inner → UsesStream Whole p ssrc rtx q
  uses_inside p q ssrc rtx s = record { lines = s.lines; own = s.own; retransmissions = s.retransmissions; others = s.others }

  -- what keeps lines keeps those of the part inside
  kept_by_act : (p q : Faulty M) (mid : List ℕ) (act : MediaAct) (h : MediaActed Whole p act q)
      → (MediaActed m p.inner act q.inner → KeepsLines m p.inner q.inner) → m.line q.inner mid ≡ m.line p.inner mid
  kept_by_act p q mid act h keeps = elim (media_act_inside m p q act h) [
    | inl f ↦ ap (λ (i : M). m.line i mid) f.0
    | inr k ↦ w.lines_stay p.inner q.inner mid (keeps k.0)
  ]

  lines_kept : (p q : Faulty M) (mid : List ℕ) → KeepsLines Whole p q → m.line q.inner mid ≡ m.line p.inner mid
  lines_kept p q mid (ByGiven packet h) = kept_by_act p q mid (MediaGiven packet) h (λ k. ByGiven packet k)
  lines_kept p q mid (ByTaken datagram h) = kept_by_act p q mid (MediaTaken datagram) h (λ k. ByTaken datagram k)
  lines_kept p q mid (ByTime now h) = kept_by_act p q mid (MediaStirred (Timed now)) h (λ k. ByTime now k)
  lines_kept p q mid (ByShut h) = kept_by_act p q mid (MediaStirred Shut) h (λ k. ByShut k)
  lines_kept p q mid (ByLoan h) = w.lines_stay p.inner q.inner mid (ByLoan (media_loan_inside m p q h).0)
  lines_kept p q mid (ByOther h) = elim (media_stir_inside m p q h) [
    | inl f ↦ ap (λ (i : M). m.line i mid) f.0
    | inr k ↦ w.lines_stay p.inner q.inner mid (ByOther k.0)
  ]

  pending_kept : (p q : Faulty M) (act : MediaAct) (h : MediaActed Whole p act q) → changes_pending Whole p q act h ≡ false
      → m.pending q.inner ≡ m.pending p.inner
  pending_kept p q act h e = elim (media_act_inside m p q act h) [
    | inl f ↦ ap m.pending f.0
    | inr k ↦ w.pending_stays p.inner q.inner act k.0 (k.1.0 ∙ e)
  ]

  -- faults
  never_falls : (p q : Faulty M) (act : MediaAct) → MediaActed Whole p act q → Whole.faults p ≤ Whole.faults q
  never_falls p q act h = elim (media_act_inside m p q act h) [
    | inl f ↦ later_outside (m.faults p.inner) (m.faults q.inner) p.numbers.faults q.numbers.faults (ap m.faults f.0) f.1
    | inr k ↦ later_inside (m.faults p.inner) (m.faults q.inner) p.numbers.faults q.numbers.faults k.1.1
        (w.faults_rise p.inner q.inner act k.0)
  ]

  rose : {A : Type 0} (uses : Result A MediaError → Bool) (R : M → Result A MediaError → M
      → Type 0) (p q : Faulty M) (r : Result A MediaError)
      → (R p.inner r q.inner → Rose (m.faults p.inner) (m.faults q.inner)) → CanFail (is_failing p.numbers) Rtp uses R p r q
      → Rose (Whole.faults p) (Whole.faults q)
  rose uses R p q r law h = elim (failed_or_reached Rtp uses R (is_failing p.numbers) p q r h) [
    | inl f ↦ rose_outside (m.faults p.inner) (m.faults q.inner) p.numbers.faults q.numbers.faults (ap m.faults f.inner) f.faults
    | inr k ↦ rose_inside (m.faults p.inner) (m.faults q.inner) p.numbers.faults q.numbers.faults k.faults (law k.did)
  ]

  -- what is held: the row of faults is unchanged if the numbers are
  same_ahead : (p q : Faulty M) → q ≡ record p { inner = q.inner } → faults_ahead q.numbers ≡ faults_ahead p.numbers
  same_ahead p q e = ap faults_ahead (reaches-numbers p q e)

  falls_held : (p q : Faulty M) → q ≡ record p { inner = q.inner } → held_media m q.inner < held_media m p.inner
      → held_media Whole q < held_media Whole p
  falls_held p q e less = fewer_held (m.held_events p.inner) (m.held_datagrams p.inner) (faults_ahead p.numbers)
      (m.held_events q.inner) (m.held_datagrams q.inner) (faults_ahead q.numbers) (same_ahead p q e) less

  keeps_held : (p q : Faulty M) → q ≡ record p { inner = q.inner } → held_media m q.inner ≤ held_media m p.inner
      → held_media Whole q ≤ held_media Whole p
  keeps_held p q e less = no_more_held (m.held_events p.inner) (m.held_datagrams p.inner) (faults_ahead p.numbers)
      (m.held_events q.inner) (m.held_datagrams q.inner) (faults_ahead q.numbers) (same_ahead p q e) less

  adds_held : (p q : Faulty M) (n : ℕ) → q ≡ record p { inner = q.inner } → held_media m q.inner ≤ held_media m p.inner + n
      → held_media Whole q ≤ held_media Whole p + n
  adds_held p q n e less = bounded_held (m.held_events p.inner) (m.held_datagrams p.inner) (faults_ahead p.numbers)
      (m.held_events q.inner) (m.held_datagrams q.inner) (faults_ahead q.numbers) n (same_ahead p q e) less

  -- a poll that is refused
  abbrev refused : MediaError → Result (Option E) MediaError
  refused e = Err e

  -- polls of events whose making may fail
  abbrev Fallible : Bool → ℕ → Faulty M → Result (Option E) MediaError → Faulty M → Type 0
  Fallible b now p r q = CanFail b Rtp (λ _. false) (λ i a j. m.told_fallible i now a j) p r q

  told_none : (b : Bool) (p q : Faulty M) (now : ℕ) → Fallible b now p (Ok None) q → q ≡ p
  told_none true p q now h = absurd (never_fault None Rtp h.0)
  told_none false p q now h = reaches_same p q (w.fallible_none p.inner q.inner now h.0) h.1

  told_quiet : (b : Bool) (p q : Faulty M) (now : ℕ) (r : Result (Option E) MediaError) → b ≡ false → m.held_events p.inner ≡ 0
      → Fallible b now p r q → (r ≡ Ok None) ⊎ (r ≡ Err Alloc)
  told_quiet true p q now r e none h = absurd (let x : true ≡ false = e in cc)
  told_quiet false p q now r e none h = w.quiet_fallible p.inner q.inner now r none h.0

  told_silent : (b : Bool) (p q o : Faulty M) (now : ℕ) → is_failing p.numbers ≡ b → m.told p.inner None q.inner
      → Fallible b now p (Ok None) o
      → m.held_events p.inner + faults_ahead p.numbers ≡ 0
  told_silent true p q o now e h k = absurd (never_fault None Rtp k.0)
  told_silent false p q o now e h k =
      omega (arith, ahead_ends p.numbers e, w.silent_events p.inner q.inner o.inner now h k.0)

  told_falls : (b : Bool) (p q : Faulty M) (now : ℕ) (e : E) → Fallible b now p (Ok (Some e)) q → held_media Whole q < held_media Whole p
  told_falls true p q now e h = absurd (never_fault (Some e) Rtp h.0)
  told_falls false p q now e h = falls_held p q h.1 (w.fallible_falls p.inner q.inner now e h.0)

  fault_falls : (b : Bool) (p q : Faulty M) (now : ℕ) (e : MediaError) → is_failing p.numbers ≡ b → e ≢ Alloc → Fallible b now p (Err e) q
      → held_media Whole q < held_media Whole p
  fault_falls true p q now e due n h =
      let inner : q.inner ≡ p.inner = ap (λ (c : Faulty M). c.inner) h.1 in
      fault_held (m.held_events p.inner) (m.held_datagrams p.inner) (faults_ahead p.numbers)
      (m.held_events q.inner) (m.held_datagrams q.inner)
      (faults_ahead q.numbers) (ahead_fails p.numbers due ∙ ap (λ (c : Faulty M). suc (faults_ahead c.numbers)) (sym h.1))
      (ap m.held_events inner) (ap m.held_datagrams inner)
  fault_falls false p q now e due n h = falls_held p q h.1 (w.fault_falls p.inner q.inner now e n h.0)

  lack_falls : (b : Bool) (p q : Faulty M) (now : ℕ) → Fallible b now p (Err Alloc) q → held_media Whole q ≤ held_media Whole p
  lack_falls true p q now h = absurd (let x : refused Alloc ≡ refused Rtp = h.0 in cc)
  lack_falls false p q now h = keeps_held p q h.1 (w.lack_falls p.inner q.inner now h.0)

  quiet_fails : (b : Bool) (p : Faulty M) (now : ℕ) → b ≡ false → m.held_events p.inner ≡ 0 → Fallible b now p (Ok None) p
  quiet_fails true p now e none = absurd (let x : true ≡ false = e in cc)
  quiet_fails false p now e none = (w.quiet_told_fallible p.inner now none, refl)

  -- of what a part holds, nothing: no event inside, no later fault
  no_event : (p : Faulty M) → m.held_events p.inner + faults_ahead p.numbers ≡ 0 → m.held_events p.inner ≡ 0
  no_event p none = omega (arith, none)

  not_due : (p : Faulty M) → m.held_events p.inner + faults_ahead p.numbers ≡ 0 → is_failing p.numbers ≡ false
  not_due p none = fails_none (is_failing p.numbers) p.numbers refl (omega (arith, none))

  nothing_held : (p : Faulty M) → held_media Whole p ≡ 0 → held_media m p.inner ≡ 0
  nothing_held p none = let all : m.held_events p.inner + faults_ahead p.numbers + m.held_datagrams p.inner ≡ 0 = none in omega arith

  cleared_quiet : (p q : Faulty M) → m.held_events p.inner + faults_ahead p.numbers ≡ 0 → Whole.cleared p q → held_media Whole q ≡ 0
  cleared_quiet p q none h =
      let inside : m.held_events q.inner + m.held_datagrams q.inner ≡ 0 = w.clear_quiets p.inner q.inner (no_event p none) h.0 in
      let ahead : faults_ahead q.numbers ≡ faults_ahead p.numbers = same_ahead p q h.1 in
      omega (arith, none)

  pub faulty_media_laws : MediaLaws (faulty_media m)
  faulty_media_laws = record {
    fresh_line = λ p mid f. w.fresh_line p.inner mid f.inner;
    prepare_same = λ p q updates r h. same_inside p q (w.prepare_same p.inner q.inner updates r h.0);
    prepare_pending = λ p q updates h. w.prepare_pending p.inner q.inner updates h.0;
    commit_lines = λ p q mid h. w.commit_lines p.inner q.inner mid h.0;
    commit_streams = λ p q mid h gone. w.commit_streams p.inner q.inner mid h.0 gone;
    pending_stays = pending_kept;
    removed_line = λ p q mid h. w.removed_line p.inner q.inner mid h.0;
    removed_streams = λ p q mid h. w.removed_streams p.inner q.inner mid h.0;
    removed_others = λ p q mid other n h. w.removed_others p.inner q.inner mid other n h.0;
    lines_stay = lines_kept;
    writer_same = λ p q mid lent left h. same_inside p q (w.writer_same p.inner q.inner mid lent left h.0);
    rx_same = λ p q ssrc lent left h. same_inside p q (w.rx_same p.inner q.inner ssrc lent left h.0);
    tx_same = λ p q ssrc lent left h. same_inside p q (w.tx_same p.inner q.inner ssrc lent left h.0);
    rx_named_same = λ p q mid rid lent left h. same_inside p q (w.rx_named_same p.inner q.inner mid rid lent left h.0);
    tx_named_same = λ p q mid rid lent left h. same_inside p q (w.tx_named_same p.inner q.inner mid rid lent left h.0);
    rx_uses = λ p q ssrc rtx mid rid lent left h.
        uses_inside p q ssrc rtx (w.rx_uses p.inner q.inner ssrc rtx mid rid lent left h.0);
    tx_uses = λ p q ssrc rtx mid rid lent left h.
        uses_inside p q ssrc rtx (w.tx_uses p.inner q.inner ssrc rtx mid rid lent left h.0);
    reset_uses = λ p q mid rid ssrc rtx lent left can h.
        uses_inside p q ssrc rtx (w.reset_uses p.inner q.inner mid rid ssrc rtx lent left can h.0);
    rx_of_line = λ p mid rid h. w.rx_of_line p.inner mid rid h;
    tx_of_line = λ p mid rid h. w.tx_of_line p.inner mid rid h;
    streams_found = λ p mid h. w.streams_found p.inner mid h;
    rx_named = λ p ssrc h. w.rx_named p.inner ssrc h;
    tx_named = λ p ssrc h. w.tx_named p.inner ssrc h;
    rx_made = λ p q ssrc rtx mid rid lent left h. w.rx_made p.inner q.inner ssrc rtx mid rid lent left h.0;
    tx_made = λ p q ssrc rtx mid rid lent left h. w.tx_made p.inner q.inner ssrc rtx mid rid lent left h.0;
    rx_removal = λ p q ssrc b h. w.rx_removal p.inner q.inner ssrc b h.0;
    tx_removal = λ p q ssrc b h. w.tx_removal p.inner q.inner ssrc b h.0;
    faults_rise = never_falls;
    time_fault = λ p q now e n h.
        rose (λ _. true) (λ i a j. m.timed i now a j) p q (Err e) (w.time_fault p.inner q.inner now e n) h;
    event_fault = λ p q now e n h.
        rose (λ _. false) (λ i a j. m.told_fallible i now a j) p q (Err e) (w.event_fault p.inner q.inner now e n) h;
    event_none = λ p q h. reaches_same p q (w.event_none p.inner q.inner h.0) h.1;
    fallible_none = λ p q now h. told_none (is_failing p.numbers) p q now h;
    datagram_none = λ p q now h. reaches_same p q (w.datagram_none p.inner q.inner now h.0) h.1;
    quiet_event = λ p q r none h. w.quiet_event p.inner q.inner r (no_event p none) h.0;
    quiet_fallible = λ p q now r none h. told_quiet (is_failing p.numbers) p q now r (not_due p none) (no_event p none) h;
    quiet_datagram = λ p q now r none h. w.quiet_datagram p.inner q.inner now r none h.0;
    silent_events = λ p q o now h k. told_silent (is_failing p.numbers) p q o now refl h.0 k;
    silent_datagrams = λ p q now h. w.silent_datagrams p.inner q.inner now h.0;
    quiet_told = λ p none. (w.quiet_told p.inner (no_event p none), refl);
    quiet_told_fallible = λ p now none. quiet_fails (is_failing p.numbers) p now (not_due p none) (no_event p none);
    quiet_gave = λ p now none. (w.quiet_gave p.inner now none, refl);
    event_falls = λ p q e h. falls_held p q h.1 (w.event_falls p.inner q.inner e h.0);
    fallible_falls = λ p q now e h. told_falls (is_failing p.numbers) p q now e h;
    fault_falls = λ p q now e n h. fault_falls (is_failing p.numbers) p q now e refl n h;
    lack_falls = λ p q now h. lack_falls (is_failing p.numbers) p q now h;
    datagram_falls = λ p q now datagram h. falls_held p q h.1 (w.datagram_falls p.inner q.inner now datagram h.0);
    clear_held = λ p q h. keeps_held p q h.1 (w.clear_held p.inner q.inner h.0);
    clear_quiets = cleared_quiet;
    clear_quiet = λ p q none h. reaches_same p q (w.clear_quiet p.inner q.inner (nothing_held p none) h.0) h.1;
    clear_wake = λ p q h. w.clear_wake p.inner q.inner h.0;
    app_wake = λ p q sender media payload r h. w.app_wake p.inner q.inner sender media payload r h.0;
    quiet_cleared = λ p none. (w.quiet_cleared p.inner (nothing_held p none), refl);
    shut_held = λ p q r h. adds_held p q 32 h.1 (w.shut_held p.inner q.inner r h.0);
    key_held = λ p q key profile active r h. adds_held p q 32 h.1 (w.key_held p.inner q.inner key profile active r h.0);
  }
