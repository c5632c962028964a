-- A stream that a poll reports as open in-band is open in the generation that it has then, over calls from streams as they begin.
use Rattle.std.proofs.Common.{◌≡◌, ◌∙◌, inl, inr, ℕ, ◌==◌, ◌&&◌, Bool, true, false, true≢false, List, [], ◌∷◌, ◌++◌, Option, Some, None, Result, Ok, Err, refl, sym, ap, subst}
use Rattle.std.specs.declared.alloc.AllocError.{AllocError}
use Rattle.std.proofs.lemmas.Bool.{eqb-true}
use Rattle.rtc_parts.specs.AssociationMeaning.{AssociationMeaning}
use Rattle.rtc_parts.specs.AssociationLaws.{AssociationLaws}
use Rattle.rtc_sctp_entries.specs.declared.sctp_event.SctpEvent.{SctpEvent}
use Rattle.rtc_sctp_entries.specs.declared.sctp_event.SctpEvent.TheVariants as event
use Rattle.rtc_sctp_entries.specs.declared.stream_entry.StreamEntry.{StreamEntry}
use Rattle.rtc_sctp_entries.specs.Entries.{entry_place, is_out_of_band}
use Rattle.rtc_sctp.specs.Streams.{SctpStreams}
use Rattle.rtc_sctp.specs.Polls.{PollsStreams}
use Rattle.rtc_sctp_laws.specs.StreamMessages.{StreamMessage}
use Rattle.rtc_sctp_laws.specs.GenerationLaws.{GenerationLaws}
use Rattle.rtc_sctp_laws.specs.StreamRuns.{CallsInTurn, CallsStreams, all_events, Inited, HalvesKept, ShutDown, Wrote, StreamOpened, StreamClosed, ThresholdSet, LimitSet, InputTaken, TimeoutTaken, PushedBack, Polled}
use Rattle.rtc_sctp_laws.specs.StreamUses.{entries_of, AreUsedIn, IsLive, IsLiveIn, IsUsed, WereOpened}
use Rattle.rtc_sctp_laws.specs.UsedCalls.{IsUsedOver}
use Rattle.rtc_sctp_laws.proofs.CallUses.{inits_use, shuts_use, timeout_use, opens_use, closes_use, over_same, threshold_use, writes_use, input_use}
use Rattle.rtc_sctp_laws.proofs.EntriesOf.{entries_other, entries_own}
use Rattle.rtc_sctp_laws.proofs.OneEntry.{one_is}
use Rattle.rtc_sctp_laws.proofs.UsedPolls.{poll_uses}
use Rattle.rtc_run_laws.specs.SettledPairs.{IsInBandStream}
use Rattle.rtc_run_laws.specs.StreamCompletions.{AreBeginning, all_had_memory, closes_before, completed_resets, had_memory}
use Rattle.rtc_run_laws.proofs.CompletingRuns.{closes_from_beginning}

both_true : (a b : Bool) → (a && b) ≡ true → (a ≡ true) × (b ≡ true)
both_true true b h = (refl, h)
both_true false b h = absurd (true≢false (sym h))

-- the entry of a stream that was not settled by other means than messages
first_is : (x e : StreamEntry) (xs l : List StreamEntry) → x ∷ xs ≡ e ∷ l → x ≡ e
first_is x e xs l h = cc

in_band_of : (s : ℕ) (es : List StreamEntry) (e : StreamEntry) (l : List StreamEntry) → entries_of s es ≡ e ∷ l → IsInBandStream s es → is_out_of_band e ≡ false
in_band_of s [] e l is band = absurd (no_one is)
  where
    none : List StreamEntry
    none = []

    no_one : none ≡ e ∷ l → ⊥
    no_one h = cc
in_band_of s (x ∷ es) e l is band = by (x.id == s) refl (λ k. in_band_of s es e l k band.1)
  where
    by : (b : Bool) → (x.id == s) ≡ b → (entries_of s es ≡ e ∷ l → is_out_of_band e ≡ false) → is_out_of_band e ≡ false
    by true c rest = ap is_out_of_band (sym (first_is x e (entries_of s es) l (sym (entries_own s x es c) ∙ is))) ∙ band.0 (eqb-true x.id s c)
    by false c rest = rest (sym (entries_other s x es c) ∙ is)

module _ {S : Type 0} (m : AssociationMeaning S) (w : AssociationLaws m) (v : GenerationLaws m) (s : ℕ) where
  -- the stream is used by some messages that were written and read
  record Uses (p : SctpStreams S) : Type 0 where
    written : List StreamMessage
    heard : List StreamMessage
    used : IsUsedOver m s written heard p

  by_poll : (p : SctpStreams S) (r : Result (Option SctpEvent) AllocError) (q : SctpStreams S) → PollsStreams m p r q → (r ≡ Ok None) × Unit {0} → Uses p → Uses q
  by_poll p r q h e k =
      let polled = subst (λ (x : Result (Option SctpEvent) AllocError). PollsStreams m p x q) e.0 h in
      let u = poll_uses m w p (Ok None) q polled in
      record { written = k.written ++ u.wrote; heard = k.heard ++ u.heard; used = (u.leaves v s k.written k.heard k.used).left }

  by_event : (p : SctpStreams S) (e : SctpEvent) (q : SctpStreams S) → PollsStreams m p (Ok (Some e)) q → Uses p → Uses q
  by_event p e q h k =
      let u = poll_uses m w p (Ok (Some e)) q h in
      record { written = k.written ++ u.wrote; heard = k.heard ++ u.heard; used = (u.leaves v s k.written k.heard k.used).left }

  uses_by : (p q : SctpStreams S) (k : Uses p) → IsUsedOver m s k.written k.heard q → Uses q
  uses_by p q k h = record { written = k.written; heard = k.heard; used = h }

  call_uses : (p : SctpStreams S) (events : List SctpEvent) (q : SctpStreams S) (h : CallsStreams m p events q) → had_memory m p events q h ≡ true → Uses p → Uses q
  call_uses p events q (Inited client now max snap r h e) had k = uses_by p q k (inits_use m v client now max snap p r q s k.written k.heard h k.used)
  call_uses p events q (HalvesKept h e) had k = uses_by p q k (over_same m v p q s k.written k.heard (ap (λ (x : SctpStreams S). x.association) h) (ap (λ (x : SctpStreams S). x.entries) h) k.used)
  call_uses p events q (ShutDown r h e) had k = uses_by p q k (shuts_use m v p r q s k.written k.heard h k.used)
  call_uses p events q (Wrote id binary bytes r h e) had k = record { written = _; heard = k.heard; used = writes_use m v w id binary bytes p r q s k.written k.heard h k.used }
  call_uses p events q (StreamOpened id config r h e) had k = uses_by p q k (opens_use m v id config p r q s k.written k.heard h k.used)
  call_uses p events q (StreamClosed id r h e) had k = uses_by p q k (closes_use m v id p r q s k.written k.heard h k.used)
  call_uses p events q (ThresholdSet id n h e) had k = uses_by p q k (threshold_use m v n (entry_place id p.entries) p q s k.written k.heard h k.used)
  call_uses p events q (LimitSet n h e) had k = uses_by p q k (over_same m v p q s k.written k.heard (ap (λ (x : SctpStreams S). x.association) h) (ap (λ (x : SctpStreams S). x.entries) h) k.used)
  call_uses p events q (InputTaken now bytes r h e) had k = uses_by p q k (input_use m v w now bytes p r q s k.written k.heard h k.used)
  call_uses p events q (TimeoutTaken now wake wake' r h e) had k = uses_by p q k (timeout_use m v now p wake r q wake' s k.written k.heard h k.used)
  call_uses p events q (PushedBack packets h e) had k = uses_by p q k (over_same m v p q s k.written k.heard (ap (λ (x : SctpStreams S). x.association) h) (ap (λ (x : SctpStreams S). x.entries) h) k.used)
  call_uses p events q (Polled (Ok None) h e) had k = by_poll p (Ok None) q h (refl, tt) k
  call_uses p events q (Polled (Ok (Some event)) h e) had k = by_event p event q h k
  call_uses p events q (Polled (Err x) h e) had k = absurd (true≢false (sym had))

  all_uses : (all : List (List SctpEvent)) (p q : SctpStreams S) (h : CallsInTurn m all p q) → all_had_memory m all p q h ≡ true → Uses p → Uses q
  all_uses [] p q h had k = subst (λ (x : SctpStreams S). Uses x) (sym h) k
  all_uses (events ∷ more) p q h had k =
      let two = both_true (had_memory m p events h.0 h.1) (all_had_memory m more h.0 q h.2) had in
      all_uses more h.0 q h.2 two.1 (call_uses p events h.0 h.1 two.0 k)

  beginning_uses : (p : SctpStreams S) → AreBeginning m p → Uses p
  beginning_uses p b = record {
    written = [];
    heard = [];
    used =
        subst (λ (l : List StreamEntry). IsUsed m s [] [] p.association l) (sym b.entries)
        (record { reached = record { ahead = λ h lt. (refl, refl); absent = λ gone. (refl, refl) }; used = inl (refl, refl) });
  }

  live_of : (es l : List StreamEntry) (g : ℕ) (a : S) (ws hs written heard : List StreamMessage) → entries_of s es ≡ l → IsInBandStream s es
      → WereOpened l g ws hs → AreUsedIn m l s a written heard → IsLive s g es
  live_of es [] g a ws hs written heard is band opened used = absurd opened
  live_of es (e ∷ []) g a ws hs written heard is band (inl out) used = absurd (true≢false (sym out ∙ in_band_of s es e [] is band))
  live_of es (e ∷ []) g a ws hs written heard is band (inr opened) used = one_is ⊥ (IsLiveIn g) (e ∷ []) (entries_of s es) is opened.1
  live_of es (e ∷ f ∷ l) g a ws hs written heard is band opened used = absurd used

  opening_live : (label : List ℕ) (p q : SctpStreams S) → PollsStreams m p (Ok (Some (event.Open s label))) q → IsInBandStream s q.entries → Uses p
      → IsLive s (m.generation q.association s) q.entries
  opening_live label p q h band k =
      let u = poll_uses m w p (Ok (Some (event.Open s label))) q h in
      let left = u.leaves v s k.written k.heard k.used in
      live_of q.entries (entries_of s q.entries) (m.generation q.association s) q.association _ _ (k.written ++ u.wrote) (k.heard ++ u.heard) refl band
      (left.opens refl) left.left.used

  pub closes_in_band : (label : List ℕ) (before later : List (List SctpEvent)) (p q r t : SctpStreams S) → AreBeginning m p → (h : CallsInTurn m before p q)
      → all_had_memory m before p q h ≡ true → PollsStreams m q (Ok (Some (event.Open s label))) r → IsInBandStream s r.entries → CallsInTurn m later r t
      → closes_before s (m.generation r.association s) (completed_resets s (all_events before)) (all_events later) ≡ true
  closes_in_band label before later p q r t b h had polled band k =
      closes_from_beginning m w s (m.generation r.association s) label before later p q r t b h polled
      (opening_live label q r polled band (all_uses before p q h had (beginning_uses p b))) k
