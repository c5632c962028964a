-- What is used of a stream stays so by acts that change nothing of it, and by messages that are written and read.
use Rattle.std.proofs.Common.{◌≡◌, inl, inr, ℕ, ◌<◌, ◌||◌, not, Bool, true, false, true≢false, List, [], ◌∷◌, ◌++◌, Option, Some, None, refl, sym, ap, subst, ◌∙◌}
use Rattle.rtc_parts.specs.declared.assoc_event.AssocEvent.{AssocEvent}
use Rattle.rtc_parts.specs.declared.ppi.Ppi.{Ppi}
use Rattle.rtc_parts.specs.AssociationMeaning.{AssociationMeaning}
use Rattle.rtc_parts.specs.AssociationActs.{AssociationAct, Given, Moved}
use Rattle.rtc_parts.specs.AssociationWords.{given}
use Rattle.rtc_sctp_entries.specs.declared.stream_entry_state.StreamEntryState.{StreamEntryState}
use Rattle.rtc_sctp_entries.specs.declared.stream_entry_state.StreamEntryState.TheVariants.{AwaitOpen, AwaitConfig, AwaitDcepAck, Open, Closed}
use Rattle.rtc_sctp_entries.specs.declared.stream_entry.StreamEntry.{StreamEntry}
use Rattle.rtc_sctp_entries.specs.Entries.{unclosed, is_closed_state, is_out_of_band}
use Rattle.rtc_sctp_laws.specs.StreamMessages.{StreamMessage, stream_message}
use Rattle.rtc_sctp_laws.specs.StreamActs.{AssociationDid}
use Rattle.rtc_sctp_laws.specs.GenerationLaws.{KeepsGeneration, GenerationLaws}
use Rattle.rtc_sctp_laws.specs.StreamUses.{messages_of, entries_of, is_spent_stream, any_dcep, IsUnused, IsIdleStream, IsUsedIn, IsWithoutDcep, IsDcepInBand, IsUsedBy, EntryUsed, NoneUsed, AreUsedIn, spoken_generation, messages_for, IsReached}
use Rattle.rtc_sctp_laws.proofs.GenerationMessages.{messages-append, messages_later}
use Rattle.rtc_sctp_laws.proofs.KnownUses.{unused_blank}
use Rattle.rtc_sctp_laws.proofs.OneEntry.{one_map, one_unclosed}

no_packet : (p : List ℕ) (l : List (List ℕ)) → p ∷ l ≡ [] → ⊥
no_packet p l h = cc

nothing_more : {A : Type 0} (xs ys : List A) → xs ≡ [] → ys ≡ [] → xs ++ ys ≡ []
nothing_more xs ys h k = ap (λ l. l ++ ys) h ∙ k

module _ {S : Type 0} (m : AssociationMeaning S) where
  pub keeps_none : (s : ℕ) (a : S) → KeepsGeneration m s a a
  keeps_none s a = record { generation_is = refl; there = λ h. h; closed = λ h. h; ending = λ h. h }

  pub keeps_join : (s : ℕ) (a b c : S) → KeepsGeneration m s a b → KeepsGeneration m s b c → KeepsGeneration m s a c
  keeps_join s a b c h k = record {
    generation_is = k.generation_is ∙ h.generation_is;
    there = λ x. k.there (h.there x);
    closed = λ x. k.closed (h.closed x);
    ending = λ x. k.ending (h.ending x);
  }

  -- acts that give no packet
  pub acts_keep : GenerationLaws m → (s : ℕ) (acts : List AssociationAct) (a b : S) → given acts ≡ [] → Moved m a acts b → KeepsGeneration m s a b
  acts_keep v s [] a b none h = subst (λ (x : S). KeepsGeneration m s a x) (sym h) (keeps_none s a)
  acts_keep v s (Given p ∷ acts) a b none h = absurd (no_packet p (given acts) none)
  acts_keep v s (act ∷ acts) a b none h = keeps_join s a h.0 b (v.acts_keep s a h.0 act refl h.1.0) (acts_keep v s acts h.0 b none h.1.1)

  pub did_keeps : GenerationLaws m → (s : ℕ) (outs : List (List ℕ)) (tells : List AssocEvent) (wrote heard : List StreamMessage) (a b : S) → AssociationDid m [] outs tells wrote heard a b → KeepsGeneration m s a b
  did_keeps v s outs tells wrote heard a b d = acts_keep v s d.acts a b d.given_is d.went

  -- what is used of a generation
  pub spent_kept : (s : ℕ) (a b : S) → KeepsGeneration m s a b → is_spent_stream m s a ≡ true → is_spent_stream m s b ≡ true
  spent_kept s a b k h = by (m.closed_here a s) refl h
    where
      left : (x y : Bool) → x ≡ true → (x || y) ≡ true
      left x y e = rw e refl

      right : (x y : Bool) → y ≡ true → (x || y) ≡ true
      right true y e = refl
      right false y e = e

      by : (c : Bool) → m.closed_here a s ≡ c → (c || (m.closing a || m.closed a)) ≡ true → is_spent_stream m s b ≡ true
      by true e f = left _ _ (k.closed e)
      by false e f = right _ _ (k.ending f)

  pub unused_kept : (s : ℕ) (a b : S) (ws hs : List StreamMessage) → KeepsGeneration m s a b → IsUnused m s a ws hs → IsUnused m s b ws hs
  unused_kept s a b ws hs k (inl h) = inl h
  unused_kept s a b ws hs k (inr h) = inr (spent_kept s a b k h)

  pub idle_kept : (s : ℕ) (a b : S) (ws hs : List StreamMessage) → KeepsGeneration m s a b → IsIdleStream m s a ws hs → IsIdleStream m s b ws hs
  idle_kept s a b ws hs k (inl h) = inl h
  idle_kept s a b ws hs k (inr h) = inr (spent_kept s a b k h)

  pub used_in_kept : (st : StreamEntryState) (marked : Bool) (own : Option ℕ) (s : ℕ) (a b : S) (ws hs : List StreamMessage) → KeepsGeneration m s a b → IsUsedIn m st marked own s a ws hs → IsUsedIn m st marked own s b ws hs
  used_in_kept AwaitOpen marked own s a b ws hs k h = idle_kept s a b ws hs k h
  used_in_kept AwaitConfig true own s a b ws hs k h = tt
  used_in_kept AwaitConfig false own s a b ws hs k h = unused_kept s a b ws hs k h
  used_in_kept AwaitDcepAck true own s a b ws hs k h = tt
  used_in_kept AwaitDcepAck false own s a b ws hs k h = h
  used_in_kept Open marked own s a b ws hs k h = tt
  used_in_kept Closed marked own s a b ws hs k h = idle_kept s a b ws hs k h

  -- what is written in-band alone
  pub without_kept : (s : ℕ) (a b : S) (ws : List StreamMessage) → KeepsGeneration m s a b → IsWithoutDcep m s a ws → IsWithoutDcep m s b ws
  without_kept s a b ws k (inl h) = inl h
  without_kept s a b ws k (inr h) = inr (spent_kept s a b k h)

  pub without_now : (s : ℕ) (a b : S) (ws : List StreamMessage) → KeepsGeneration m s a b → IsWithoutDcep m s a (messages_of s (m.generation a s) ws) → IsWithoutDcep m s b (messages_of s (m.generation b s) ws)
  without_now s a b ws k h = subst (λ (g : ℕ). IsWithoutDcep m s b (messages_of s g ws)) (sym k.generation_is) (without_kept s a b (messages_of s (m.generation a s) ws) k h)

  in_band_kept : (st : StreamEntryState) (out : Bool) (s : ℕ) (a b : S) (ws : List StreamMessage) → KeepsGeneration m s a b → IsDcepInBand m st out s a ws → IsDcepInBand m st out s b ws
  in_band_kept AwaitOpen out s a b ws k h = tt
  in_band_kept AwaitConfig out s a b ws k h = (h.0, without_kept s a b ws k h.1)
  in_band_kept AwaitDcepAck out s a b ws k h = h
  in_band_kept Open true s a b ws k h = without_kept s a b ws k h
  in_band_kept Open false s a b ws k h = tt
  in_band_kept Closed out s a b ws k h = tt

  pub in_band_now : (st : StreamEntryState) (out : Bool) (s : ℕ) (a b : S) (ws : List StreamMessage) → KeepsGeneration m s a b → IsDcepInBand m st out s a (messages_of s (m.generation a s) ws)
      → IsDcepInBand m st out s b (messages_of s (m.generation b s) ws)
  in_band_now st out s a b ws k h =
      subst (λ (g : ℕ). IsDcepInBand m st out s b (messages_of s g ws)) (sym k.generation_is) (in_band_kept st out s a b (messages_of s (m.generation a s) ws) k h)

  in_band_risen : (st : StreamEntryState) (out : Bool) (s : ℕ) (a b : S) (us ws : List StreamMessage) → ws ≡ [] → IsDcepInBand m st out s a us → IsDcepInBand m st out s b ws
  in_band_risen AwaitOpen out s a b us ws e h = tt
  in_band_risen AwaitConfig out s a b us ws e h = (h.0, inl (ap any_dcep e))
  in_band_risen AwaitDcepAck out s a b us ws e h = h
  in_band_risen Open true s a b us ws e h = inl (ap any_dcep e)
  in_band_risen Open false s a b us ws e h = tt
  in_band_risen Closed out s a b us ws e h = tt

  pub used_by_kept : (e : StreamEntry) (s : ℕ) (a b : S) (ws hs : List StreamMessage) → KeepsGeneration m s a b → IsUsedBy m e s a ws hs → IsUsedBy m e s b ws hs
  used_by_kept e s a b ws hs k h =
      let of : ℕ → List StreamMessage → List StreamMessage = λ g l. messages_of s (spoken_generation e.state e.generation g) l in (
        subst (λ (g : ℕ). IsUsedIn m e.state e.marked e.generation s b (of g ws) (of g hs)) (sym k.generation_is)
            (used_in_kept e.state e.marked e.generation s a b _ _ k h.0),
        in_band_now e.state (is_out_of_band e) s a b ws k h.1,
      )

  idle_now : (s : ℕ) (a b : S) (ws hs : List StreamMessage) → KeepsGeneration m s a b → IsIdleStream m s a (messages_of s (m.generation a s) ws) (messages_of s (m.generation a s) hs) → IsIdleStream m s b (messages_of s (m.generation b s) ws) (messages_of s (m.generation b s) hs)
  idle_now s a b ws hs k h =
      subst (λ (g : ℕ). IsIdleStream m s b (messages_of s g ws) (messages_of s g hs)) (sym k.generation_is) (idle_kept s a b _ _ k h)

  pub are_used_kept : (es : List StreamEntry) (s : ℕ) (a b : S) (ws hs : List StreamMessage) → KeepsGeneration m s a b → AreUsedIn m es s a ws hs → AreUsedIn m es s b ws hs
  are_used_kept es s a b ws hs k h = one_map (NoneUsed m s a ws hs) (NoneUsed m s b ws hs) (EntryUsed m s a ws hs) (EntryUsed m s b ws hs) es (idle_now s a b ws hs k) (λ e. used_by_kept e s a b ws hs k) h

  -- what was reached
  not_there : (s : ℕ) (a b : S) → KeepsGeneration m s a b → m.has_stream b s ≡ false → m.has_stream a s ≡ false
  not_there s a b k h = by (m.has_stream a s) refl
    where
      by : (c : Bool) → m.has_stream a s ≡ c → m.has_stream a s ≡ false
      by true e = absurd (true≢false (sym (k.there e) ∙ h))
      by false e = e

  pub reached_kept : (s : ℕ) (ws hs : List StreamMessage) (a b : S) → KeepsGeneration m s a b → IsReached m s ws hs a → IsReached m s ws hs b
  reached_kept s ws hs a b k h = record {
    ahead = λ g lt. h.ahead g (subst (λ (n : ℕ). n < g) k.generation_is lt);
    absent = λ none. subst (λ (g : ℕ). (messages_of s g ws ≡ []) × (messages_of s g hs ≡ [])) (sym k.generation_is) (h.absent (not_there s a b k none));
  }

  -- a message that is written, or read, to the generation that the stream has, where it is there
  pub reached_wrote : (s : ℕ) (ws hs : List StreamMessage) (a b : S) (i : Ppi) (bytes : List ℕ) → KeepsGeneration m s a b → m.has_stream a s ≡ true → IsReached m s ws hs a → IsReached m s (ws ++ stream_message s (m.generation a s) i bytes ∷ []) hs b
  reached_wrote s ws hs a b i bytes k there h = record {
    ahead = λ g lt.
        let up : m.generation a s < g = subst (λ (n : ℕ). n < g) k.generation_is lt in
        let was = h.ahead g up in
        (messages-append s g ws _ ∙ nothing_more _ _ was.0 (messages_later s (m.generation a s) g i bytes up), was.1);
    absent = λ none. absurd (true≢false (sym (k.there there) ∙ none));
  }

  pub reached_read : (s : ℕ) (ws hs : List StreamMessage) (a b : S) (i : Ppi) (bytes : List ℕ) → KeepsGeneration m s a b → m.has_stream a s ≡ true → IsReached m s ws hs a → IsReached m s ws (hs ++ stream_message s (m.generation a s) i bytes ∷ []) b
  reached_read s ws hs a b i bytes k there h = record {
    ahead = λ g lt.
        let up : m.generation a s < g = subst (λ (n : ℕ). n < g) k.generation_is lt in
        let was = h.ahead g up in
        (was.0, messages-append s g hs _ ∙ nothing_more _ _ was.1 (messages_later s (m.generation a s) g i bytes up));
    absent = λ none. absurd (true≢false (sym (k.there there) ∙ none));
  }

  -- a stream that comes to a generation of which nothing was written or read
  risen_in : (st : StreamEntryState) (marked : Bool) (own : Option ℕ) (s : ℕ) (a b : S) (ws hs : List StreamMessage) → messages_of s (m.generation b s) ws ≡ [] → messages_of s (m.generation b s) hs ≡ []
      → IsUsedIn m st marked own s a (messages_for m st own s a ws) (messages_for m st own s a hs) → IsUsedIn m st marked own s b (messages_for m st own s b ws) (messages_for m st own s b hs)
  risen_in AwaitOpen marked own s a b ws hs e f k = inl (e, f)
  risen_in AwaitConfig true own s a b ws hs e f k = tt
  risen_in AwaitConfig false own s a b ws hs e f k = unused_blank m s b _ _ e f
  risen_in AwaitDcepAck true own s a b ws hs e f k = tt
  risen_in AwaitDcepAck false None s a b ws hs e f k = absurd (true≢false (sym k.0))
  risen_in AwaitDcepAck false (Some n) s a b ws hs e f k = k
  risen_in Open marked own s a b ws hs e f k = tt
  risen_in Closed marked own s a b ws hs e f k = inl (e, f)

  pub risen_used : (s : ℕ) (a b : S) (ws hs : List StreamMessage) (es : List StreamEntry) → messages_of s (m.generation b s) ws ≡ [] → messages_of s (m.generation b s) hs ≡ [] → AreUsedIn m es s a ws hs → AreUsedIn m es s b ws hs
  risen_used s a b ws hs es e f k = one_map (NoneUsed m s a ws hs) (NoneUsed m s b ws hs) (EntryUsed m s a ws hs) (EntryUsed m s b ws hs) es (λ h. inl (e, f)) (λ x h. (risen_in x.state x.marked x.generation s a b ws hs e f h.0, in_band_risen x.state (is_out_of_band x) s a b _ _ e h.1)) k

  -- closed entries are dropped
  pub unclosed_used : (s : ℕ) (a : S) (ws hs : List StreamMessage) (es : List StreamEntry) → AreUsedIn m (entries_of s es) s a ws hs → AreUsedIn m (entries_of s (unclosed es)) s a ws hs
  unclosed_used s a ws hs es k = one_unclosed (NoneUsed m s a ws hs) (EntryUsed m s a ws hs) s es (λ e c h. by e.state e.marked e.generation c h.0) k
    where
      by : (st : StreamEntryState) (marked : Bool) (own : Option ℕ) → not (is_closed_state st) ≡ false → IsUsedIn m st marked own s a (messages_for m st own s a ws) (messages_for m st own s a hs)
          → IsIdleStream m s a (messages_of s (m.generation a s) ws) (messages_of s (m.generation a s) hs)
      by AwaitOpen marked own c h = absurd (true≢false c)
      by AwaitConfig marked own c h = absurd (true≢false c)
      by AwaitDcepAck marked own c h = absurd (true≢false c)
      by Open marked own c h = absurd (true≢false c)
      by Closed marked own c h = h
