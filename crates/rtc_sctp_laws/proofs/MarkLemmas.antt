-- Where an entry comes to be closed: its stream is closed from here, or the other end closed it.
use Rattle.std.proofs.Common.{◌≡◌, ℕ, zero, suc, ◌+◌, ◌==◌, not, cond, Bool, true, false, true≢false, List, [], ◌∷◌, length, set, Option, Some, None, Result, refl, sym, ap, subst, ◌∙◌, arith}
use Rattle.std.specs.Prelude.{nat_lt, slice_get, if◌then◌else◌}
use Rattle.std.specs.List.{prefix_len}
use Rattle.std.specs.declared.alloc.AllocError.{AllocError}
use Rattle.std.proofs.lemmas.Bool.{eqb-true}
use Rattle.std.proofs.lemmas.Option.{same_Some}
use Rattle.rtc_parts.specs.declared.assoc_event.AssocEvent.TheVariants.{Finished}
use Rattle.rtc_parts.specs.AssociationMeaning.{AssociationMeaning}
use Rattle.rtc_sctp_entries.specs.declared.stream_entry_state.StreamEntryState.{StreamEntryState}
use Rattle.rtc_sctp_entries.specs.declared.stream_entry_state.StreamEntryState.TheVariants.{AwaitOpen, AwaitConfig, AwaitDcepAck, Open, Closed}
use Rattle.rtc_sctp_entries.specs.declared.stream_entry.StreamEntry.{StreamEntry}
use Rattle.rtc_sctp_entries.specs.Entries.{is_entry_of, entry_place, marked_entry, is_open_awaited}
use Rattle.rtc_sctp.specs.Streams.{SctpStreams}
use Rattle.rtc_sctp.specs.StreamCalls.{ClosesAt, ClosesDataStream}
use Rattle.rtc_sctp.specs.Polls.{Book, FinishesAt, AfterEvent}
use Rattle.rtc_sctp_laws.specs.StreamRuns.{is_past_opening, is_closing_entry, has_closing_entry}
use Rattle.rtc_sctp_laws.proofs.EndingLemmas.{ending_is, any_more, any_head}

-- what stands behind a prefix does not pass
no_entry : (e : StreamEntry) → None ≡ Some e → ⊥
no_entry e h = cc

prefix_stops : (p : StreamEntry → Bool) (es : List StreamEntry) (e : StreamEntry) → slice_get es (prefix_len p es) ≡ Some e → p e ≡ false
prefix_stops p [] e h = absurd (no_entry e h)
prefix_stops p (x ∷ es) e h = by (p x) refl h (λ k. prefix_stops p es e k)
  where
    by : (b : Bool) → p x ≡ b → slice_get (x ∷ es) (cond b (1 + prefix_len p es) 0) ≡ Some e → (slice_get es (prefix_len p es) ≡ Some e → p e ≡ false) → p e ≡ false
    by true c k rest =
        let next : 1 + prefix_len p es ≡ suc (prefix_len p es) = omega arith in
        rest (subst (λ (n : ℕ). slice_get (x ∷ es) n ≡ Some e) next k)
    by false c k rest = ap p (sym (same_Some x e k)) ∙ c

some_place : (n len place : ℕ) → cond (nat_lt n len) (Some n) None ≡ Some place → n ≡ place
some_place n len place h = by (nat_lt n len) h
  where
    no_place : None ≡ Some place → ⊥
    no_place k = cc

    by : (b : Bool) → cond b (Some n) None ≡ Some place → n ≡ place
    by true k = same_Some n place k
    by false k = absurd (no_place k)

same_number : (n id : ℕ) → not (n == id) ≡ false → n ≡ id
same_number n id h = by (n == id) refl h
  where
    by : (b : Bool) → (n == id) ≡ b → not b ≡ false → n ≡ id
    by true e k = eqb-true n id e
    by false e k = absurd (true≢false k)

-- what stands at the place of a stream is its entry
place_number : (id place : ℕ) (es : List StreamEntry) (e : StreamEntry) → entry_place id es ≡ Some place → slice_get es place ≡ Some e → e.id ≡ id
place_number id place es e h at =
    let p : StreamEntry → Bool = λ x. not (is_entry_of id x) in
    let is : prefix_len p es ≡ place = some_place (prefix_len p es) (length es) place h in
    same_number e.id id (prefix_stops p es e (subst (λ (n : ℕ). slice_get es n ≡ Some e) (sym is) at))

closing_at : (id : ℕ) (es : List StreamEntry) (i : ℕ) (e e' : StreamEntry) → slice_get es i ≡ Some e → is_closing_entry id e' ≡ true → has_closing_entry id (set es i e') ≡ true
closing_at id [] i e e' at h = absurd (no_entry e at)
closing_at id (x ∷ es) zero e e' at h = any_head id e' es h
closing_at id (x ∷ es) (suc i) e e' at h = any_more id x (set es i e') (closing_at id es i e e' at h)

past_awaited : (st : StreamEntryState) → is_past_opening st ≡ true → is_open_awaited st ≡ false
past_awaited AwaitOpen h = absurd (true≢false (sym h))
past_awaited AwaitConfig h = refl
past_awaited AwaitDcepAck h = refl
past_awaited Open h = refl
past_awaited Closed h = refl

finished_closing : (b : Bool) (id : ℕ) (e : StreamEntry) → b ≡ false → e.id ≡ id → is_past_opening e.state ≡ true → is_closing_entry id (if b then e else marked_entry e) ≡ true
finished_closing true id e c i k = absurd (true≢false c)
finished_closing false id e c i k = ending_is id (marked_entry e) i refl k

finishes_closing : (o : Option ℕ) (id place : ℕ) (es es' : List StreamEntry) (e : StreamEntry) → o ≡ Some place → e.id ≡ id → slice_get es place ≡ Some e → is_past_opening e.state ≡ true → FinishesAt o es es' → has_closing_entry id es' ≡ true
finishes_closing None id place es es' e h i at k f = absurd (no_place h)
  where
    no_place : None ≡ Some place → ⊥
    no_place j = cc
finishes_closing (Some other) id place es es' e h i at k f =
    let there : slice_get es other ≡ Some e = subst (λ (n : ℕ). slice_get es n ≡ Some e) (sym (same_Some other place h)) at in
    let same : f.0 ≡ e = same_Some f.0 e (sym f.1 ∙ there) in
    ap (has_closing_entry id) f.2
    ∙ closing_at id es other f.0 _ f.1 (finished_closing (is_open_awaited f.0.state) id f.0 (past_awaited f.0.state (ap (λ (x : StreamEntry). is_past_opening x.state) same ∙ k)) (ap (λ (x : StreamEntry). x.id) same ∙ i) (ap (λ (x : StreamEntry). is_past_opening x.state) same ∙ k))

-- an entry past its opening is to be closed where the close of the other end is told
pub finished_marks : (id place : ℕ) (b b' : Book) (e : StreamEntry) → entry_place id b.entries ≡ Some place → slice_get b.entries place ≡ Some e → is_past_opening e.state ≡ true → AfterEvent (Finished id) b b' → has_closing_entry id b'.entries ≡ true
finished_marks id place b b' e h at k f = finishes_closing (entry_place id b.entries) id place b.entries b'.entries e h (place_number id place b.entries e h at) at k f.0

module _ {S : Type 0} (m : AssociationMeaning S) where
  closes_closing : (o : Option ℕ) (id place : ℕ) (p : S) (es : List StreamEntry) (resets : List ℕ) (r : Result (Unit {0}) AllocError) (q : S) (es' : List StreamEntry) (resets' : List ℕ) (e : StreamEntry) → o ≡ Some place → e.id ≡ id → slice_get es place ≡ Some e → is_past_opening e.state ≡ true → ClosesAt m o id p es resets r q es' resets' → has_closing_entry id es' ≡ true
  closes_closing None id place p es resets r q es' resets' e h i at k f = absurd (no_place h)
    where
      no_place : None ≡ Some place → ⊥
      no_place j = cc
  closes_closing (Some other) id place p es resets r q es' resets' e h i at k f =
      let there : slice_get es other ≡ Some e = subst (λ (n : ℕ). slice_get es n ≡ Some e) (sym (same_Some other place h)) at in
      let same : f.0.0 ≡ e = same_Some f.0.0 e (sym f.0.1 ∙ there) in
      ap (has_closing_entry id) f.0.2
      ∙ closing_at id es other f.0.0 _ f.0.1 (ending_is id (marked_entry f.0.0) (ap (λ (x : StreamEntry). x.id) same ∙ i) refl (ap (λ (x : StreamEntry). is_past_opening x.state) same ∙ k))

  -- and where its stream is closed from here
  pub close_marks : (id place : ℕ) (p : SctpStreams S) (r : Result (Unit {0}) AllocError) (q : SctpStreams S) (e : StreamEntry) → entry_place id p.entries ≡ Some place → slice_get p.entries place ≡ Some e → is_past_opening e.state ≡ true → ClosesDataStream m id p r q → has_closing_entry id q.entries ≡ true
  close_marks id place p r q e h at k f =
      closes_closing (entry_place id p.entries) id place p.association p.entries p.resets r q.association q.entries q.resets e h (place_number id place p.entries e h at) at k f.0
