-- A stream that is past a generation stays so by all acts, and nothing is written to the generation.
use Rattle.std.proofs.Common.{◌≡◌, ◌≢◌, inl, inr, ℕ, ◌<◌, ◌≤◌, ◌==◌, ◌&&◌, cond, Bool, true, false, true≢false, List, [], ◌∷◌, ◌++◌, refl, sym, ap, subst, ◌∙◌, arith}
use Rattle.std.proofs.lemmas.Bool.{eqb-true, eqb-false}
use Rattle.rtc_parts.specs.AssociationMeaning.{AssociationMeaning}
use Rattle.rtc_parts.specs.AssociationActs.{AssociationAct, Wrote, Given, Acted, Moved}
use Rattle.rtc_parts.specs.AssociationWords.{AssociationMessage, written}
use Rattle.rtc_parts.specs.AssociationLaws.{AssociationLaws}
use Rattle.rtc_parts.proofs.AssociationLemmas.{generation_rises, written-append}
use Rattle.rtc_sctp_laws.specs.GenerationLaws.{KeepsGeneration, GenerationLaws}
use Rattle.std.specs.Prelude.{nat_lt}
use Rattle.rtc_sctp_entries.specs.declared.stream_entry_state.StreamEntryState.{StreamEntryState}
use Rattle.rtc_sctp_entries.specs.declared.stream_entry_state.StreamEntryState.TheVariants.{Closed}
use Rattle.rtc_sctp_entries.specs.declared.stream_entry.StreamEntry.{StreamEntry}
use Rattle.rtc_sctp_laws.specs.StreamMessages.{StreamMessage}
use Rattle.rtc_sctp_laws.specs.StreamUses.{OneAtMost, begins_with_dcep, entries_of, is_spent_stream, messages_of, messages_for, IsIdleStream, IsUsedIn, AreUsedIn, IsUsed, IsShutDown}
use Rattle.rtc_sctp_laws.proofs.KnownUses.{write_facts}
use Rattle.rtc_sctp_laws.proofs.KeptUses.{spent_kept}
use Rattle.rtc_sctp_laws.specs.PastGenerations.{IsPast, StaysPast}

both : (a b : Bool) → (a && b) ≡ true → (a ≡ true) × (b ≡ true)
both true true h = (refl, refl)
both true false h = absurd (true≢false (sym h))
both false b h = absurd (true≢false (sym h))

module _ {S : Type 0} (m : AssociationMeaning S) (w : AssociationLaws m) (v : GenerationLaws m) where
  kept_past : (s g : ℕ) (a b : S) → KeepsGeneration m s a b → m.generation a s ≡ g → is_spent_stream m s a ≡ true → IsPast m s g b
  kept_past s g a b k e h = inr (k.generation_is ∙ e, spent_kept m s a b k h)

  act_past : (s g : ℕ) (a b : S) (act : AssociationAct) → Acted m a act b → IsPast m s g a → IsPast m s g b
  act_past s g a b act h (inl k) = let up = generation_rises m w a b act s h in inl (omega (arith, up, k))
  act_past s g a b (Given bytes) h (inr k) = by (m.generation b s == m.generation a s) refl
    where
      by : (c : Bool) → (m.generation b s == m.generation a s) ≡ c → IsPast m s g b
      by true c = kept_past s g a b (v.packets_keep s h.0 bytes a b h.1.0 h.1.1 (eqb-true (m.generation b s) (m.generation a s) c)) k.0 k.1
      by false c =
          let other : m.generation b s ≢ m.generation a s = eqb-false (m.generation b s) (m.generation a s) c in
          let up : m.generation a s ≤ m.generation b s = generation_rises m w a b (Given bytes) s h in
          let own : m.generation a s ≡ g = k.0 in
          inl (omega (arith, up, other, own))
  act_past s g a b act h (inr k) = kept_past s g a b (v.acts_keep s a b act refl h) k.0 k.1

  unwritten : (s g n : ℕ) (a : S) → IsPast m s g a → n ≡ s → g ≡ m.generation a n → is_spent_stream m n a ≡ false → ⊥
  unwritten s g n a (inl k) same own free = let e : g ≡ m.generation a s = own ∙ ap (m.generation a) same in omega (arith, k, e)
  unwritten s g n a (inr k) same own free = true≢false (sym k.1 ∙ ap (λ (i : ℕ). is_spent_stream m i a) (sym same) ∙ free)

  act_none : (s g : ℕ) (a b : S) (act : AssociationAct) → Acted m a act b → IsPast m s g a → written s g (act ∷ []) ≡ []
  act_none s g a b (Wrote t h i bytes) k past = by ((t == s) && (h == g)) refl
    where
      by : (c : Bool) → ((t == s) && (h == g)) ≡ c → cond {A = List AssociationMessage} c (record { identifier = i; bytes = bytes } ∷ []) [] ≡ []
      by true c =
          let same = both (t == s) (h == g) c in
          absurd (unwritten s g t a past (eqb-true t s same.0) (sym (eqb-true h g same.1) ∙ k.1.1.2) (write_facts m w v t a b k.0 bytes k.1.0 k.1.1.0).1)
      by false c = refl
  act_none s g a b act k past = refl

  -- all acts
  pub acts_past : (s g : ℕ) (acts : List AssociationAct) (a b : S) → Moved m a acts b → IsPast m s g a → StaysPast m s g acts b
  acts_past s g [] a b h k = record { past = subst (λ (x : S). IsPast m s g x) (sym h) k; none = refl }
  acts_past s g (act ∷ acts) a b h k =
      let rest = acts_past s g acts h.0 b h.1.1 (act_past s g a h.0 act h.1.0 k) in
      record {
        past = rest.past;
        none =
            written-append s g (act ∷ []) acts
            ∙ ap (λ (l : List AssociationMessage). l ++ written s g acts) (act_none s g a h.0 act h.1.0 k)
            ∙ rest.none;
      }

module _ {S : Type 0} (m : AssociationMeaning S) where
  -- a stream of which nothing is in use, and that was used in a generation
  idle_of : (es : List StreamEntry) (s : ℕ) (a : S) (ws hs : List StreamMessage) → AreUsedIn m es s a ws hs → OneAtMost (Unit {0}) (λ (e : StreamEntry). e.state ≡ Closed) es
      → IsIdleStream m s a (messages_of s (m.generation a s) ws) (messages_of s (m.generation a s) hs)
  idle_of [] s a ws hs h k = h
  idle_of (e ∷ []) s a ws hs h k =
      subst (λ (st : StreamEntryState). IsUsedIn m st e.marked e.generation s a (messages_for m st e.generation s a ws) (messages_for m st e.generation s a hs)) k h.0
  idle_of (e ∷ f ∷ es) s a ws hs h k = absurd h

  none_begins : (l : List StreamMessage) → l ≡ [] → begins_with_dcep l ≡ true → ⊥
  none_begins l e h = true≢false (sym h ∙ ap begins_with_dcep e)

  pub shut_past : (s g : ℕ) (ws hs : List StreamMessage) (a : S) (es : List StreamEntry) → IsUsed m s ws hs a es → IsShutDown s es → begins_with_dcep (messages_of s g ws) ≡ true → IsPast m s g a
  shut_past s g ws hs a es used shut begun = by (m.generation a s == g) refl (idle_of (entries_of s es) s a ws hs used.used shut)
    where
      own : m.generation a s ≡ g → IsIdleStream m s a (messages_of s (m.generation a s) ws) (messages_of s (m.generation a s) hs) → IsPast m s g a
      own same (inl none) = absurd (none_begins (messages_of s g ws) (ap (λ (n : ℕ). messages_of s n ws) (sym same) ∙ none.0) begun)
      own same (inr spent) = inr (same, spent)

      later : (b : Bool) → nat_lt (m.generation a s) g ≡ b → m.generation a s ≢ g → IsPast m s g a
      later true e other = let lt : m.generation a s < g = grind (arith, e) in absurd (none_begins (messages_of s g ws) (used.reached.ahead g lt).0 begun)
      later false e other = let up : g ≤ m.generation a s = grind (arith, e) in inl (omega (arith, up, other))

      by : (b : Bool) → (m.generation a s == g) ≡ b → IsIdleStream m s a (messages_of s (m.generation a s) ws) (messages_of s (m.generation a s) hs) → IsPast m s g a
      by true e idle = own (eqb-true (m.generation a s) g e) idle
      by false e idle = later (nat_lt (m.generation a s) g) refl (eqb-false (m.generation a s) g e)
