-- The entry of a stream, where entries are set, put in and dropped.
use Rattle.std.proofs.Common.{◌≡◌, ℕ, zero, suc, ◌<◌, ◌==◌, ◌||◌, ◌&&◌, not, cond, Bool, true, false, true≢false, List, [], ◌∷◌, length, get_or, Some, None, refl, sym, ap, subst, ◌∙◌, arith}
use Rattle.std.specs.Prelude.{slice_get, slice_set}
use Rattle.std.proofs.lemmas.Bool.{ne_eqb}
use Rattle.std.proofs.lemmas.Option.{same_Some}
use Rattle.rtc_parts.specs.AssociationMeaning.{AssociationMeaning}
use Rattle.rtc_sctp_entries.specs.declared.stream_entry_state.StreamEntryState.{StreamEntryState}
use Rattle.rtc_sctp_entries.specs.declared.stream_entry_state.StreamEntryState.TheVariants.{AwaitOpen, AwaitConfig, AwaitDcepAck, Open, Closed}
use Rattle.rtc_sctp_entries.specs.declared.stream_entry.StreamEntry.{StreamEntry}
use Rattle.rtc_sctp_entries.specs.Entries.{entry_place, is_closed_state, is_open_state, is_out_of_band, unclosed, has_open}
use Rattle.rtc_sctp_entries.proofs.OrderLemmas.{none_missing}
use Rattle.rtc_sctp_laws.specs.StreamMessages.{StreamMessage}
use Rattle.rtc_sctp_laws.specs.StreamUses.{entries_of, messages_of, IsUsedIn, IsWithoutDcep, IsDcepInBand, IsUsedBy, AreUsedIn}

pub no_entries : (e : StreamEntry) (es : List StreamEntry) → e ∷ es ≡ [] → ⊥
no_entries e es h = cc

no_entry : (e : StreamEntry) → None ≡ Some e → ⊥
no_entry e h = cc

-- with an entry of the stream before it, and with one of another stream
pub entries_own : (s : ℕ) (e : StreamEntry) (es : List StreamEntry) → (e.id == s) ≡ true → entries_of s (e ∷ es) ≡ e ∷ entries_of s es
entries_own s e es h = ap (λ (b : Bool). cond b (e ∷ entries_of s es) (entries_of s es)) h

pub entries_other : (s : ℕ) (e : StreamEntry) (es : List StreamEntry) → (e.id == s) ≡ false → entries_of s (e ∷ es) ≡ entries_of s es
entries_other s e es h = ap (λ (b : Bool). cond b (e ∷ entries_of s es) (entries_of s es)) h

pub same_test : (n k s : ℕ) (b : Bool) → k ≡ n → (n == s) ≡ b → (k == s) ≡ b
same_test n k s b e h = ap (λ (x : ℕ). x == s) e ∙ h

-- where the stream has none, none of the entries is its own
pub none_head : (s : ℕ) (e : StreamEntry) (es : List StreamEntry) → entries_of s (e ∷ es) ≡ [] → ((e.id == s) ≡ false) × (entries_of s es ≡ [])
none_head s e es h = by (e.id == s) refl
  where
    by : (b : Bool) → (e.id == s) ≡ b → ((e.id == s) ≡ false) × (entries_of s es ≡ [])
    by true c = absurd (no_entries e (entries_of s es) (sym (entries_own s e es c) ∙ h))
    by false c = (c, sym (entries_other s e es c) ∙ h)

pub none_more : (s : ℕ) (e : StreamEntry) (es : List StreamEntry) → (e.id == s) ≡ false → entries_of s es ≡ [] → entries_of s (e ∷ es) ≡ []
none_more s e es c h = entries_other s e es c ∙ h

pub none_set : (s : ℕ) (es : List StreamEntry) (i : ℕ) (e e' : StreamEntry) → slice_get es i ≡ Some e → e'.id ≡ e.id → entries_of s es ≡ [] → entries_of s (slice_set es i e') ≡ []
none_set s [] i e e' at same h = absurd (no_entry e at)
none_set s (x ∷ xs) zero e e' at same h =
    let none = none_head s x xs h in
    none_more s e' xs (same_test x.id e'.id s false (same ∙ ap (λ (y : StreamEntry). y.id) (sym (same_Some x e at))) none.0) none.1
none_set s (x ∷ xs) (suc i) e e' at same h = let none = none_head s x xs h in none_more s x (slice_set xs i e') none.0 (none_set s xs i e e' at same none.1)

pub none_unclosed : (s : ℕ) (es : List StreamEntry) → entries_of s es ≡ [] → entries_of s (unclosed es) ≡ []
none_unclosed s [] h = refl
none_unclosed s (x ∷ xs) h = by (not (is_closed_state x.state)) refl (none_head s x xs h).0 (none_unclosed s xs (none_head s x xs h).1)
  where
    by : (b : Bool) → not (is_closed_state x.state) ≡ b → (x.id == s) ≡ false → entries_of s (unclosed xs) ≡ [] → entries_of s (cond b (x ∷ unclosed xs) (unclosed xs)) ≡ []
    by true e c k = none_more s x (unclosed xs) c k
    by false e c k = k

-- a stream without a place has no entry
pub none_placed : (s : ℕ) (es : List StreamEntry) → entry_place s es ≡ None → entries_of s es ≡ []
none_placed s es h = from es (none_missing s es h)
  where
    from : (l : List StreamEntry) → ((k : ℕ) (d : StreamEntry) → k < length l → (get_or l k d).id ≡ s → ⊥) → entries_of s l ≡ []
    from [] none = refl
    from (x ∷ l) none =
        none_more s x l (ne_eqb x.id s (λ e. none 0 x (omega arith) e))
        (from l (λ k d lt. none (suc k) d (omega (arith, lt))))

module _ {S : Type 0} (m : AssociationMeaning S) where
  -- the only one
  pub only_used : (s : ℕ) (a : S) (ws hs : List StreamMessage) (e : StreamEntry) (l : List StreamEntry) → AreUsedIn m (e ∷ l) s a ws hs → (l ≡ []) × IsUsedBy m e s a ws hs
  only_used s a ws hs e [] h = (refl, h)
  only_used s a ws hs e (f ∷ l) h = absurd h

  pub used_is : (l l' : List StreamEntry) (s : ℕ) (a : S) (ws hs : List StreamMessage) → l' ≡ l → AreUsedIn m l s a ws hs → AreUsedIn m l' s a ws hs
  used_is l l' s a ws hs e h = subst (λ (x : List StreamEntry). AreUsedIn m x s a ws hs) (sym e) h

  -- of a stream that is open it is said alone that such messages are written in-band
  no_open : (s : ℕ) (es : List StreamEntry) → entries_of s es ≡ [] → has_open s es ≡ true → ⊥
  no_open s [] none h = true≢false (sym h)
  no_open s (x ∷ xs) none h = by (x.id == s) (none_head s x xs none).0 h (λ k. no_open s xs (none_head s x xs none).1 k)
    where
      by : (b : Bool) → b ≡ false → ((b && is_open_state x.state) || has_open s xs) ≡ true → (has_open s xs ≡ true → ⊥) → ⊥
      by true c k rest = true≢false c
      by false c k rest = rest k

  pub open_used : (s : ℕ) (a b : S) (ws hs ws' hs' : List StreamMessage) (es : List StreamEntry)
      → (IsWithoutDcep m s a (messages_of s (m.generation a s) ws) → IsWithoutDcep m s b (messages_of s (m.generation b s) ws')) → has_open s es ≡ true
      → AreUsedIn m (entries_of s es) s a ws hs → AreUsedIn m (entries_of s es) s b ws' hs'
  open_used s a b ws hs ws' hs' [] without h k = absurd (true≢false (sym h))
  open_used s a b ws hs ws' hs' (x ∷ xs) without h k = by (x.id == s) refl h (λ f g. open_used s a b ws hs ws' hs' xs without f g)
    where
      open_in : (st : StreamEntryState) (us vs : List StreamMessage) → (is_open_state st || has_open s xs) ≡ true → entries_of s xs ≡ [] → IsUsedIn m st x.marked x.generation s b us vs
      open_in AwaitOpen us vs f none = absurd (no_open s xs none f)
      open_in AwaitConfig us vs f none = absurd (no_open s xs none f)
      open_in AwaitDcepAck us vs f none = absurd (no_open s xs none f)
      open_in Open us vs f none = tt
      open_in Closed us vs f none = absurd (no_open s xs none f)

      in_band : (st : StreamEntryState) (out : Bool) → (is_open_state st || has_open s xs) ≡ true → entries_of s xs ≡ [] → IsDcepInBand m st out s a (messages_of s (m.generation a s) ws)
          → IsDcepInBand m st out s b (messages_of s (m.generation b s) ws')
      in_band AwaitOpen out f none g = absurd (no_open s xs none f)
      in_band AwaitConfig out f none g = absurd (no_open s xs none f)
      in_band AwaitDcepAck out f none g = absurd (no_open s xs none f)
      in_band Open true f none g = without g
      in_band Open false f none g = tt
      in_band Closed out f none g = absurd (no_open s xs none f)

      by : (c : Bool) → (x.id == s) ≡ c → ((c && is_open_state x.state) || has_open s xs) ≡ true → (has_open s xs ≡ true → AreUsedIn m (entries_of s xs) s a ws hs → AreUsedIn m (entries_of s xs) s b ws' hs') → AreUsedIn m (entries_of s (x ∷ xs)) s b ws' hs'
      by true c f rest =
          let one = only_used s a ws hs x (entries_of s xs) (used_is _ _ s a ws hs (sym (entries_own s x xs c)) k) in
          used_is (x ∷ []) _ s b ws' hs' (entries_own s x xs c ∙ ap (λ (l : List StreamEntry). x ∷ l) one.0) (open_in x.state _ _ f one.0, in_band x.state (is_out_of_band x) f one.0 one.1.1)
      by false c f rest = used_is _ _ s b ws' hs' (entries_other s x xs c) (rest f (used_is _ _ s a ws hs (sym (entries_other s x xs c)) k))
