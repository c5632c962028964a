-- The entry of a stream of which a message that opens a channel was read, and some was written.
use Rattle.std.proofs.Common.{◌≡◌, ◌∙◌, ◌++◌, ◌∷◌, ◌==◌, ◌||◌, if◌then◌else◌, ℕ, Bool, true, false, true≢false, List, [], map, Option, Some, None, inl, inr, refl, sym, ap, subst}
use Rattle.std.proofs.lemmas.Bool.{eqb-true}
use Rattle.rtc_parts.specs.AssociationMeaning.{AssociationMeaning}
use Rattle.rtc_parts.specs.AssociationWords.{AssociationMessage}
use Rattle.rtc_assoc_state.specs.Outbox.{has_unacknowledged}
use Rattle.rtc_assoc_state.specs.declared.item.Item.{Item}
use Rattle.rtc_sctp_entries.specs.declared.stream_entry_state.StreamEntryState.{StreamEntryState}
use Rattle.rtc_sctp_entries.specs.declared.stream_entry_state.StreamEntryState.TheVariants.{AwaitOpen, AwaitConfig, AwaitDcepAck, Open, Closed as EntryClosed}
use Rattle.rtc_sctp_entries.specs.declared.stream_entry.StreamEntry.{StreamEntry}
use Rattle.rtc_sctp_entries.specs.Entries.{fits_generation}
use Rattle.rtc_sctp_laws.specs.StreamMessages.{StreamMessage, HaveNamedPpis, is_dcep_message}
use Rattle.rtc_sctp_laws.specs.StreamUses.{EntryUsed, HasOpenInBand, IsIdleStream, IsUsedIn, any_dcep, begins_with_dcep, entries_of, is_spent_stream, messages_for, messages_of}
use Rattle.rtc_sctp_laws.specs.Contents.{numbered_message}
use Rattle.rtc_peer_laws.specs.Drained.{AreHeard, IsHeard}
use Rattle.rtc_run_laws.specs.SettledPairs.{IsInBandStream}
use Rattle.rtc_run_laws.proofs.GotAndSent.{begins_too}
use Rattle.rtc_run_laws.proofs.UseLists.{none_numbered, prefix_same}

-- ---- messages

pub no_messages : (before : List StreamMessage) (last : StreamMessage) (rest : List StreamMessage) → (before ++ last ∷ []) ++ rest ≡ [] → ⊥
no_messages [] last rest h = cc
no_messages (x ∷ before) last rest h = cc

pub nothing_first : (xs ys : List AssociationMessage) → xs ++ ys ≡ [] → xs ≡ []
nothing_first [] ys h = refl
nothing_first (x ∷ xs) ys h = absurd (no_cons (xs ++ ys) h)
  where
    no_cons : (l : List AssociationMessage) → x ∷ l ≡ [] → ⊥
    no_cons l k = cc

-- who read all of what opens a channel read a message that does
pub reads_dcep : (zs ws : List StreamMessage) → HaveNamedPpis zs → HaveNamedPpis ws → map numbered_message zs ≡ map numbered_message ws
    → begins_with_dcep ws ≡ true → any_dcep zs ≡ true
reads_dcep [] ws named others same begun =
    absurd (true≢false (sym (ap begins_with_dcep (sym (none_numbered ws (sym same))) ∙ begun)))
reads_dcep (z ∷ zs) ws named others same begun =
    by (is_dcep_message z) (begins_too z zs ws named.0 others (prefix_same (map numbered_message (z ∷ zs)) (map numbered_message ws) same) begun)
  where
    by : (b : Bool) → b ≡ true → (b || any_dcep zs) ≡ true
    by true e = refl
    by false e = absurd (true≢false (sym e))

pub none_has : (s : ℕ) (items : List Item) → items ≡ [] → has_unacknowledged s items ≡ false
none_has s items h = ap (has_unacknowledged s) h

-- ---- entries

-- an entry past its opening, of whose stream a message that opens a channel was read, and some was written, is open
module _ {S : Type 0} (m : AssociationMeaning S) (s : ℕ) (a : S) (ws hs : List StreamMessage) (some : messages_of s (m.generation a s) ws ≡ [] → ⊥)
    (free : is_spent_stream m s a ≡ false) where
  pub not_idle : (heard : List StreamMessage) → IsIdleStream m s a (messages_of s (m.generation a s) ws) heard → ⊥
  not_idle heard (inl none) = some none.0
  not_idle heard (inr spent) = true≢false (sym spent ∙ free)

  open_in : (st : StreamEntryState) (own : Option ℕ) → any_dcep (messages_of s (m.generation a s) hs) ≡ true
      → fits_generation own (m.generation a s) ≡ true → IsUsedIn m st false own s a (messages_for m st own s a ws) (messages_for m st own s a hs)
      → st ≡ Open
  open_in AwaitOpen own any fits h = absurd (not_idle _ h)
  open_in AwaitConfig own any fits (inl none) = absurd (true≢false (sym any ∙ none.1))
  open_in AwaitConfig own any fits (inr spent) = absurd (true≢false (sym spent ∙ free))
  open_in AwaitDcepAck None any fits h = absurd (true≢false (sym h.0))
  open_in AwaitDcepAck (Some n) any fits h =
      absurd (true≢false (sym any ∙ ap (λ (k : ℕ). any_dcep (messages_of s k hs)) (sym (eqb-true n (m.generation a s) fits)) ∙ h.1.2))
  open_in Open own any fits h = refl
  open_in EntryClosed own any fits h = absurd (not_idle _ h)

  -- the same of an entry that was heard
  pub open_heard : (e : StreamEntry) → e.id ≡ s → (m.has_unread a s (m.generation a s) ≡ false → any_dcep (messages_of s (m.generation a s) hs) ≡ true)
      → EntryUsed m s a ws hs e → IsHeard m a e → (e.state ≡ Open) × (fits_generation e.generation (m.generation a s) ≡ true)
  open_heard e same any used (inl waits) =
      absurd
      (not_idle _
      (subst (λ (st : StreamEntryState). IsUsedIn m st e.marked e.generation s a (messages_for m st e.generation s a ws) (messages_for m st e.generation s a hs))
      waits.0 used.0))
  open_heard e same any used (inr heard) =
      let fits : fits_generation e.generation (m.generation a s) ≡ true =
      ap (λ (n : ℕ). fits_generation e.generation (m.generation a n)) (sym same) ∙ heard.3 in
      let none : m.has_unread a s (m.generation a s) ≡ false = ap (λ (n : ℕ). m.has_unread a n (m.generation a n)) (sym same) ∙ heard.2 in (
        open_in e.state e.generation (any none) fits
            (subst (λ (b : Bool). IsUsedIn m e.state b e.generation s a (messages_for m e.state e.generation s a ws) (messages_for m e.state e.generation s a hs))
            heard.0 used.0),
        fits,
      )

-- an entry among those of its stream
pub record EntryAmong {S : Type 0} (m : AssociationMeaning S) (a : S) (s : ℕ) (es : List StreamEntry) (e : StreamEntry) : Type 0 where
  pub id_is : e.id ≡ s
  pub heard : IsHeard m a e
  pub in_band : (own : Option ℕ) → e.generation ≡ own → e.state ≡ Open → HasOpenInBand s own es

pub entry_among : {S : Type 0} (m : AssociationMeaning S) (a : S) (s : ℕ) (es : List StreamEntry) (e : StreamEntry) (l : List StreamEntry)
    → entries_of s es ≡ e ∷ l → AreHeard m a es → IsInBandStream s es → EntryAmong m a s es e
entry_among m a s [] e l h heard band = absurd (none_some h)
  where
    none_some : [] ≡ e ∷ l → ⊥
    none_some k = cc
entry_among m a s (x ∷ es) e l h heard band = by (x.id == s) refl h (λ k. entry_among m a s es e l k heard.1 band.1)
  where
    first : (l' : List StreamEntry) → x ∷ l' ≡ e ∷ l → x ≡ e
    first l' k = cc

    own : x.id ≡ s → x ≡ e → EntryAmong m a s (x ∷ es) e
    own same is = record {
      id_is = ap (λ (y : StreamEntry). y.id) (sym is) ∙ same;
      heard = subst (λ (y : StreamEntry). IsHeard m a y) is heard.0;
      in_band = λ own f g.
          inl
          (same, (ap (λ (y : StreamEntry). y.state) is ∙ g, ap (λ (y : StreamEntry). y.generation) is ∙ f, band.0 same));
    }

    by : (b : Bool) → (x.id == s) ≡ b → (if b then x ∷ entries_of s es else entries_of s es) ≡ e ∷ l
        → (entries_of s es ≡ e ∷ l → EntryAmong m a s es e) → EntryAmong m a s (x ∷ es) e
    by true c k rest = own (eqb-true x.id s c) (first (entries_of s es) k)
    by false c k rest =
        let r = rest k in
        record { id_is = r.id_is; heard = r.heard; in_band = λ own f g. inr (r.in_band own f g) }
