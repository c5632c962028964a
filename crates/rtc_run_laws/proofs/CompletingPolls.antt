-- Over polls a stream that is open in a generation is told closed before the completed reset of that generation.
use Rattle.std.proofs.Common.{◌≡◌, ◌+◌, ◌≤◌, ◌<◌, ℕ, zero, suc, ◌==◌, true, List, [], ◌∷◌, ◌++◌, Option, Result, refl, sym, ap, subst, ◌∙◌, arith, zero-add}
use Rattle.std.specs.Prelude.{if◌then◌else◌}
use Rattle.std.specs.declared.alloc.AllocError.{AllocError}
use Rattle.rtc_parts.specs.declared.assoc_event.AssocEvent.{AssocEvent}
use Rattle.rtc_parts.specs.declared.assoc_event.AssocEvent.TheVariants as assoc
use Rattle.rtc_parts.specs.AssociationActs.{AssociationAct, Moved, moved-append}
use Rattle.rtc_parts.specs.AssociationMeaning.{AssociationMeaning}
use Rattle.rtc_parts.specs.AssociationLaws.{AssociationLaws}
use Rattle.rtc_parts.specs.AssociationWords.{completions, told}
use Rattle.rtc_parts.proofs.AssociationLemmas.{completed, completions-append, told-append}
use Rattle.rtc_sctp_entries.specs.declared.sctp_event.SctpEvent.{SctpEvent}
use Rattle.rtc_sctp_entries.specs.declared.sctp_event.SctpEvent.TheVariants as event
use Rattle.rtc_sctp_entries.specs.declared.met.Met.{Met}
use Rattle.rtc_sctp_entries.specs.declared.met.Met.TheVariants.{Again, Output}
use Rattle.rtc_sctp.specs.Streams.{SctpStreams, is_established}
use Rattle.rtc_sctp.specs.Polls.{MakesPass, Over, PollsStreams}
use Rattle.rtc_sctp_laws.specs.StreamMessages.{StreamMessage, resets_met, met_of}
use Rattle.rtc_sctp_laws.specs.StreamActs.{AssociationDid, PollDid, completed_after}
use Rattle.rtc_sctp_laws.specs.StreamUses.{IsLive}
use Rattle.rtc_sctp_laws.proofs.ClosingPolls.{started_moved}
use Rattle.rtc_sctp_laws.proofs.PollActs.{met_by, pass_did}
use Rattle.rtc_run_laws.proofs.CompletingVisits.{TellsClose}
use Rattle.rtc_run_laws.proofs.CompletingSteps.{Completed, Left, Quiet, Told, pass_left}

-- how often a stream is among some
abbrev pub count_of : ℕ → List ℕ → ℕ
count_of s [] = 0
count_of s (id ∷ ids) = (if id == s then 1 else 0) + count_of s ids

count_of-append : (s : ℕ) (xs ys : List ℕ) → count_of s (xs ++ ys) ≡ count_of s xs + count_of s ys
count_of-append s [] ys = sym (zero-add (count_of s ys))
count_of-append s (x ∷ xs) ys = omega (arith, count_of-append s xs ys)

pub none_more : (n : ℕ) → n + 0 ≡ n
none_more n = omega arith

count_own : (s id : ℕ) (ids : List ℕ) → (id == s) ≡ true → count_of s (id ∷ ids) ≡ 1 + count_of s ids
count_own s id ids own = rw own refl

-- those whose completed reset is to be reported after some events are at most those before and those that the events complete
count_after : (s : ℕ) (xs : List ℕ) (events : List AssocEvent) → count_of s (completed_after xs events) ≤ count_of s xs + completions s events
count_after s xs [] = omega arith
count_after s xs (assoc.ResetComplete id ∷ events) = omega (arith, count_after s (xs ++ id ∷ []) events, count_of-append s xs (id ∷ []))
count_after s xs (assoc.Lost ∷ events) = omega (arith, count_after s [] events)
count_after s xs (assoc.Connected ∷ events) = count_after s xs events
count_after s xs (assoc.Readable id ∷ events) = count_after s xs events
count_after s xs (assoc.Writable id ∷ events) = count_after s xs events
count_after s xs (assoc.Finished id ∷ events) = count_after s xs events
count_after s xs (assoc.BufferedAmountLow id ∷ events) = count_after s xs events

module _ {S : Type 0} (m : AssociationMeaning S) (w : AssociationLaws m) where
  -- So many completed resets of a stream were reported: these and those that are to be reported are no more than those that the association
  -- told since it was made.
  pub record Counted (s n : ℕ) (a : S) (due : List ℕ) : Type 0 where
    pub start : S
    pub acts : List AssociationAct
    pub fresh : m.fresh start
    pub went : Moved m start acts a
    pub bound : n + count_of s due ≤ completions s (told acts)

  pub counted_more : (s n : ℕ) (a b : S) (ins outs : List (List ℕ)) (tells : List AssocEvent) (wrote heard : List StreamMessage) (due reported due' : List ℕ)
      → AssociationDid m ins outs tells wrote heard a b → completed_after due tells ≡ reported ++ due' → Counted s n a due → Counted s (n + count_of s reported) b due'
  counted_more s n a b ins outs tells wrote heard due reported due' d is c = record {
    start = c.start;
    acts = c.acts ++ d.acts;
    fresh = c.fresh;
    went = moved-append m c.start a b c.acts d.acts c.went d.went;
    bound =
        let tells_is : completions s (told d.acts) ≡ completions s tells = ap (completions s) d.told_is in
        let all : completions s (told (c.acts ++ d.acts)) ≡ completions s (told c.acts) + completions s (told d.acts) =
        ap (completions s) (told-append c.acts d.acts) ∙ completions-append s (told c.acts) (told d.acts) in
        let split : count_of s (completed_after due tells) ≡ count_of s reported + count_of s due' = ap (count_of s) is ∙ count_of-append s reported due' in
        omega (arith, c.bound, tells_is, all, split, count_after s due tells);
  }

  -- no more were told than the generation of the stream
  pub counted_below : (s n : ℕ) (a : S) (due : List ℕ) → Counted s n a due → n + count_of s due ≤ m.generation a s
  counted_below s n a due c =
      let all = completed m w c.start a c.acts s c.went in
      let none : completions s (m.due c.start) ≡ 0 = ap (completions s) (w.fresh_due c.start c.fresh) in
      omega (arith, c.bound, all, none)

  -- ---- polls

  -- a stream is open in a generation over a running association, and so many of its completed resets were reported
  pub record Holds (s g n : ℕ) (p : SctpStreams S) : Type 0 where
    pub established : is_established p.state ≡ true
    pub started : m.started p.association ≡ true
    pub counted : Counted s n p.association p.completed
    pub live : IsLive s g p.entries

  holds : (s g n : ℕ) (p : SctpStreams S) (met : Met) (q : SctpStreams S) → PollDid m p met q → Holds s g n p → is_established q.state ≡ true → IsLive s g q.entries
      → Holds s g (n + count_of s (resets_met met)) q
  holds s g n p met q d h st live = record {
    established = st;
    started = started_moved m w d.did.acts p.association q.association h.started d.did.went;
    counted = counted_more s n p.association q.association [] d.outs d.tells d.wrote d.heard p.completed (resets_met met) q.completed d.did d.completed_is h.counted;
    live = live;
  }

  no_output : (e : SctpEvent) → Again ≡ Output e → ⊥
  no_output e h = cc

  again_holds : (s g n : ℕ) (p q : SctpStreams S) → MakesPass m p Again q → Holds s g n p → Holds s g n q
  again_holds s g n p q h k = by (pass_left m w s g p Again q k.established k.started k.live h)
    where
      by : Left m w s g p Again q → Holds s g n q
      by (Told t) = absurd (no_output _ t.1)
      by (Quiet r st live) = subst (λ (i : ℕ). Holds s g i q) (none_more n) (holds s g n p Again q (pass_did m w p Again q h) k st live)
      by (Completed id e st live c up) = absurd (no_output _ e)

  over_holds : (passes s g n : ℕ) (p q : SctpStreams S) → Over m passes p q → Holds s g n p → Holds s g n q
  over_holds zero s g n p q h k = subst (λ (x : SctpStreams S). Holds s g n x) (sym h) k
  over_holds (suc passes) s g n p q h k = again_holds s g n h.0 q h.2 (over_holds passes s g n p h.0 h.1 k)

  -- what a poll leaves: its Close was told; or the stream is still open, and a completed reset that was told is of an earlier generation
  pub data PollLeft (s g n : ℕ) (met : Met) (q : SctpStreams S) : Type 0 where
    Closes : TellsClose s met → PollLeft s g n met q
    Goes : ((id : ℕ) → met ≡ Output (event.StreamResetComplete id) → id ≡ s → n < g) → Holds s g (n + count_of s (resets_met met)) q → PollLeft s g n met q

  some_reset : (id : ℕ) (met : Met) → met ≡ Output (event.StreamResetComplete id) → resets_met met ≡ [] → ⊥
  some_reset id met e r = let none : id ∷ [] ≡ [] = sym (ap resets_met e) ∙ r in cc

  same_reset : (id other : ℕ) (met : Met) → met ≡ Output (event.StreamResetComplete id) → met ≡ Output (event.StreamResetComplete other) → other ≡ id
  same_reset id other met e f = let h : Output (event.StreamResetComplete other) ≡ Output (event.StreamResetComplete id) = sym f ∙ e in cc

  earlier : (s g n id : ℕ) (p : SctpStreams S) (rest : List ℕ) → Holds s g n p → p.completed ≡ id ∷ rest → m.generation p.association s ≤ g → id ≡ s → n < g
  earlier s g n id p rest k c up is =
      let one : (id == s) ≡ true = grind (arith, is) in
      let count : count_of s p.completed ≡ 1 + count_of s rest = ap (count_of s) c ∙ count_own s id rest one in
      let below = counted_below s n p.association p.completed k.counted in
      omega (arith, count, below, up)

  last_left : (s g n : ℕ) (p : SctpStreams S) (met : Met) (q : SctpStreams S) → MakesPass m p met q → Holds s g n p → PollLeft s g n met q
  last_left s g n p met q h k = by (pass_left m w s g p met q k.established k.started k.live h)
    where
      by : Left m w s g p met q → PollLeft s g n met q
      by (Told t) = Closes t
      by (Quiet r st live) = Goes (λ id e is. absurd (some_reset id met e r)) (holds s g n p met q (pass_did m w p met q h) k st live)
      by (Completed id e st live c up) =
          Goes (λ other f is. earlier s g n id p q.completed k c up (sym (same_reset id other met e f) ∙ is)) (holds s g n p met q (pass_did m w p met q h) k st live)

  pub poll_left : (s g n : ℕ) (p : SctpStreams S) (r : Result (Option SctpEvent) AllocError) (q : SctpStreams S) → PollsStreams m p r q → Holds s g n p → PollLeft s g n (met_of r) q
  poll_left s g n p r q h k =
      subst (λ (x : Met). PollLeft s g n x q) (met_by m w r h.met h.answers) (last_left s g n h.between h.met q h.last (over_holds h.passes s g n p h.between h.over k))
