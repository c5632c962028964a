-- What moments, openings and closes of streams leave of entries whose opening is begun.
use Rattle.std.proofs.Common.{◌≡◌, ◌⊎◌, ◌==◌, arith, if◌then◌else◌, inl, inr, ℕ, zero, suc, Bool, true, false, List, [], ◌∷◌, Option, Some, None, Result, Ok, refl, sym, ap, subst, ◌∙◌}
use Rattle.std.specs.Prelude.{is_some, slice_get, slice_set}
use Rattle.std.specs.declared.alloc.AllocError.{AllocError}
use Rattle.std.proofs.lemmas.Option.{same_Some}
use Rattle.rtc_ready.specs.Signals.{Signals}
use Rattle.rtc_wire.specs.declared.channel_config.ChannelConfig.{ChannelConfig}
use Rattle.rtc_parts.specs.AssociationMeaning.{AssociationMeaning}
use Rattle.rtc_sctp_entries.specs.declared.asked.Asked.{Asked}
use Rattle.rtc_sctp_entries.specs.declared.asked.Asked.TheVariants as did
use Rattle.rtc_sctp_entries.specs.declared.stream_entry_state.StreamEntryState.{StreamEntryState}
use Rattle.rtc_sctp_entries.specs.declared.stream_entry_state.StreamEntryState.TheVariants.{AwaitOpen, AwaitConfig, AwaitDcepAck, Open, Closed}
use Rattle.rtc_sctp_entries.specs.declared.stream_entry.StreamEntry.{StreamEntry}
use Rattle.rtc_sctp_entries.specs.Entries.{Ascend, entry_place, marked_entry, new_entry, new_place, threshold_set, unclosed}
use Rattle.rtc_sctp.specs.declared.rtc_sctp_state.RtcSctpState.{RtcSctpState}
use Rattle.rtc_sctp.specs.declared.rtc_sctp_state.RtcSctpState.TheVariants.{Uninited, AwaitRemoteAssociation, AwaitAssociationEstablished, Established}
use Rattle.rtc_sctp.specs.Streams.{SctpStreams}
use Rattle.rtc_sctp.specs.Calls.{TimedBy, TakesTimeout}
use Rattle.rtc_sctp.specs.StreamCalls.{ConfigBy, TakesConfig, Declined, Answered, OpensAwaiting, OpensOver, OpensAt, OpensStream, ClosesAt, ClosesDataStream, SetsThreshold}
use Rattle.rtc_run_laws.proofs.PlacedEntries.{place_number}
use Rattle.rtc_sctp.proofs.OrderKept.{open_ascend}
use Rattle.rtc_sctp_laws.specs.StreamUses.{entries_of}
use Rattle.rtc_sctp_laws.proofs.EntriesOf.{entries_own, none_placed}
use Rattle.rtc_run_laws.specs.OwnOpenings.{HasEntryOf, HasOpening, IsOpeningState}
use Rattle.rtc_run_laws.proofs.StandingVisits.{IsStanding, open_not, same_opening}
use Rattle.rtc_run_laws.proofs.StandingEntries.{HasStanding, NoneClosed, Kept, kept_is, kept_on, kept_set, kept_unclosed, marked_kept, openings_insert, own_insert, shut_insert, shut_unclosed, stands_insert}
use Rattle.rtc_run_laws.proofs.StreamPolls.{IsShutBefore}

no_entry : (e : StreamEntry) → None ≡ Some e → ⊥
no_entry e h = cc

-- a stream without entries has none that is so
cons_not : (e : StreamEntry) (l : List StreamEntry) → e ∷ l ≡ [] → ⊥
cons_not e l h = cc

own_test : (n s : ℕ) → n ≡ s → (n == s) ≡ true
own_test n s h = grind (arith, h)

pub none_listed : (P : StreamEntry → Type 0) (s : ℕ) (es : List StreamEntry) → entries_of s es ≡ [] → HasEntryOf P s es → ⊥
none_listed P s [] h k = absurd k
none_listed P s (e ∷ es) h (inl k) = cons_not e (entries_of s es) (sym (entries_own s e es (own_test e.id s k.0)) ∙ h)
none_listed P s (e ∷ es) h (inr k) = by (e.id == s) h (λ f. none_listed P s es f k)
  where
    by : (b : Bool) → (if b then e ∷ entries_of s es else entries_of s es) ≡ [] → (entries_of s es ≡ [] → ⊥) → ⊥
    by true f rest = cons_not e (entries_of s es) f
    by false f rest = rest f

-- an entry of a list without closed ones is not closed
shut_get : (es : List StreamEntry) (i : ℕ) (e : StreamEntry) → NoneClosed es → slice_get es i ≡ Some e → e.state ≡ Closed → ⊥
shut_get [] i e h at = absurd (no_entry e at)
shut_get (x ∷ xs) zero e h at = subst (λ (y : StreamEntry). y.state ≡ Closed → ⊥) (same_Some x e at) h.0
shut_get (x ∷ xs) (suc i) e h at = shut_get xs i e h.1 at

-- an entry that is set stands for its stream
set_stands : (s : ℕ) (es : List StreamEntry) (i : ℕ) (e e' : StreamEntry) → slice_get es i ≡ Some e → e'.id ≡ s → IsStanding e'
    → HasStanding s (slice_set es i e')
set_stands s [] i e e' at same h = absurd (no_entry e at)
set_stands s (x ∷ xs) zero e e' at same h = inl (same, h)
set_stands s (x ∷ xs) (suc i) e e' at same h = inr (set_stands s xs i e e' at same h)

open_standing : (e : StreamEntry) → e.state ≡ Open → IsStanding e
open_standing e is = ((λ c. let clash : Open ≡ Closed = sym is ∙ c in cc), λ c. absurd (let clash : Open ≡ AwaitConfig = sym is ∙ c in cc))

marked_standing : (e : StreamEntry) → (e.state ≡ Closed → ⊥) → IsStanding (marked_entry e)
marked_standing e h = (h, λ c. refl)

module _ {S : Type 0} (m : AssociationMeaning S) where
  -- ---- moments

  timed_kept : (st : RtcSctpState) (now : ℕ) (p : SctpStreams S) (wake : Signals) (r : Result (Unit {0}) AllocError) (q : SctpStreams S) (wake' : Signals)
      → TimedBy m st now p wake r q wake' → Kept p.entries q.entries
  timed_kept Uninited now p wake r q wake' h = kept_is p.entries q.entries (ap (λ (y : SctpStreams S). y.entries) h.1)
  timed_kept AwaitRemoteAssociation now p wake r q wake' h =
      kept_on p.entries (unclosed p.entries) q.entries (kept_unclosed p.entries)
      (kept_is (unclosed p.entries) q.entries (ap (λ (y : SctpStreams S). y.entries) h.1))
  timed_kept AwaitAssociationEstablished now p wake r q wake' h =
      kept_on p.entries (unclosed p.entries) q.entries (kept_unclosed p.entries)
      (kept_is (unclosed p.entries) q.entries (ap (λ (y : SctpStreams S). y.entries) h.1))
  timed_kept Established now p wake r q wake' h =
      kept_on p.entries (unclosed p.entries) q.entries (kept_unclosed p.entries)
      (kept_is (unclosed p.entries) q.entries (ap (λ (y : SctpStreams S). y.entries) h.1))

  -- behind one no entry is closed
  timed_shut : (st : RtcSctpState) (now : ℕ) (p : SctpStreams S) (wake : Signals) (r : Result (Unit {0}) AllocError) (q : SctpStreams S) (wake' : Signals)
      → p.state ≡ st → IsShutBefore p → TimedBy m st now p wake r q wake' → NoneClosed q.entries
  timed_shut Uninited now p wake r q wake' is before h =
      subst (λ (l : List StreamEntry). NoneClosed l) (sym (ap (λ (y : SctpStreams S). y.entries) h.1)) (before is)
  timed_shut AwaitRemoteAssociation now p wake r q wake' is before h =
      subst (λ (l : List StreamEntry). NoneClosed l) (sym (ap (λ (y : SctpStreams S). y.entries) h.1)) (shut_unclosed p.entries)
  timed_shut AwaitAssociationEstablished now p wake r q wake' is before h =
      subst (λ (l : List StreamEntry). NoneClosed l) (sym (ap (λ (y : SctpStreams S). y.entries) h.1)) (shut_unclosed p.entries)
  timed_shut Established now p wake r q wake' is before h =
      subst (λ (l : List StreamEntry). NoneClosed l) (sym (ap (λ (y : SctpStreams S). y.entries) h.1)) (shut_unclosed p.entries)

  pub timeout_kept : (now : ℕ) (p : SctpStreams S) (wake : Signals) (r : Result (Unit {0}) AllocError) (q : SctpStreams S) (wake' : Signals)
      → TakesTimeout m now p wake r q wake' → Kept p.entries q.entries
  timeout_kept now p wake r q wake' h = timed_kept p.state now p wake r q wake' h

  pub timeout_shut : (now : ℕ) (p : SctpStreams S) (wake : Signals) (r : Result (Unit {0}) AllocError) (q : SctpStreams S) (wake' : Signals)
      → IsShutBefore p → TakesTimeout m now p wake r q wake' → NoneClosed q.entries
  timeout_shut now p wake r q wake' before h = timed_shut p.state now p wake r q wake' refl before h

  -- ---- openings that found memory

  by_config : (answer : Asked) (config : ChannelConfig) (e e' : StreamEntry) → (e.state ≡ Closed → ⊥) → ConfigBy answer config e (Ok tt) e' → IsStanding e'
  by_config did.Done config e e' live h = open_standing e' (ap (λ (y : StreamEntry). y.state) h)
  by_config did.Refused config e e' live h = subst (λ (y : StreamEntry). IsStanding y) (sym h) (marked_standing e live)
  by_config did.OutOfMemory config e e' live h = absurd h

  takes_config : (config : ChannelConfig) (p : S) (e : StreamEntry) (q : S) (e' : StreamEntry) → (e.state ≡ Closed → ⊥)
      → TakesConfig m config p e (Ok tt) q e' → IsStanding e'
  takes_config config p e q e' live (Declined c f g h) = subst (λ (y : StreamEntry). IsStanding y) (sym h) (marked_standing e live)
  takes_config config p e q e' live (Answered answer c f h) = by_config answer config e e' live h

  awaiting : (set : Bool) (config : ChannelConfig) (p : S) (e : StreamEntry) (q : S) (e' : StreamEntry) → (e.state ≡ Closed → ⊥)
      → OpensAwaiting m set config p e (Ok tt) q e' → IsStanding e'
  awaiting true config p e q e' live h = subst (λ (y : StreamEntry). IsStanding y) (sym h.2) (marked_standing e live)
  awaiting false config p e q e' live h = takes_config config p e q e' live h

  over_standing : (st : StreamEntryState) (config : ChannelConfig) (p : S) (e : StreamEntry) (q : S) (e' : StreamEntry) → (e.state ≡ Closed → ⊥)
      → OpensOver m st config p e (Ok tt) q e' → IsStanding e'
  over_standing AwaitConfig config p e q e' live h = awaiting (is_some e.config) config p e q e' live h
  over_standing AwaitOpen config p e q e' live h = subst (λ (y : StreamEntry). IsStanding y) (sym h.2) (marked_standing e live)
  over_standing AwaitDcepAck config p e q e' live h = subst (λ (y : StreamEntry). IsStanding y) (sym h.2) (marked_standing e live)
  over_standing Open config p e q e' live h = subst (λ (y : StreamEntry). IsStanding y) (sym h.2) (marked_standing e live)
  over_standing Closed config p e q e' live h = subst (λ (y : StreamEntry). IsStanding y) (sym h.2) (marked_standing e live)

  marked_id : (e e' : StreamEntry) → e' ≡ marked_entry e → e'.id ≡ e.id
  marked_id e e' h = ap (λ (y : StreamEntry). y.id) h

  config_id : (answer : Asked) (config : ChannelConfig) (e e' : StreamEntry) → ConfigBy answer config e (Ok tt) e' → e'.id ≡ e.id
  config_id did.Done config e e' h = ap (λ (y : StreamEntry). y.id) h
  config_id did.Refused config e e' h = marked_id e e' h
  config_id did.OutOfMemory config e e' h = absurd h

  takes_id : (config : ChannelConfig) (p : S) (e : StreamEntry) (q : S) (e' : StreamEntry) → TakesConfig m config p e (Ok tt) q e' → e'.id ≡ e.id
  takes_id config p e q e' (Declined c f g h) = marked_id e e' h
  takes_id config p e q e' (Answered answer c f h) = config_id answer config e e' h

  awaiting_id : (set : Bool) (config : ChannelConfig) (p : S) (e : StreamEntry) (q : S) (e' : StreamEntry) → OpensAwaiting m set config p e (Ok tt) q e'
      → e'.id ≡ e.id
  awaiting_id true config p e q e' h = marked_id e e' h.2
  awaiting_id false config p e q e' h = takes_id config p e q e' h

  pub over_id : (st : StreamEntryState) (config : ChannelConfig) (p : S) (e : StreamEntry) (q : S) (e' : StreamEntry) → OpensOver m st config p e (Ok tt) q e'
      → e'.id ≡ e.id
  over_id AwaitConfig config p e q e' h = awaiting_id (is_some e.config) config p e q e' h
  over_id AwaitOpen config p e q e' h = marked_id e e' h.2
  over_id AwaitDcepAck config p e q e' h = marked_id e e' h.2
  over_id Open config p e q e' h = marked_id e e' h.2
  over_id Closed config p e q e' h = marked_id e e' h.2

  -- none is opened from here by it that has an entry
  config_opening : (answer : Asked) (config : ChannelConfig) (e e' : StreamEntry) → ConfigBy answer config e (Ok tt) e' → IsOpeningState e'.state
      → IsOpeningState e.state
  config_opening did.Done config e e' h o = absurd (open_not e'.state (ap (λ (y : StreamEntry). y.state) h) o)
  config_opening did.Refused config e e' h o = same_opening e.state e'.state (ap (λ (y : StreamEntry). y.state) h) o
  config_opening did.OutOfMemory config e e' h o = absurd h

  takes_opening : (config : ChannelConfig) (p : S) (e : StreamEntry) (q : S) (e' : StreamEntry) → TakesConfig m config p e (Ok tt) q e'
      → IsOpeningState e'.state → IsOpeningState e.state
  takes_opening config p e q e' (Declined c f g h) o = same_opening e.state e'.state (ap (λ (y : StreamEntry). y.state) h) o
  takes_opening config p e q e' (Answered answer c f h) o = config_opening answer config e e' h o

  awaiting_opening : (set : Bool) (config : ChannelConfig) (p : S) (e : StreamEntry) (q : S) (e' : StreamEntry)
      → OpensAwaiting m set config p e (Ok tt) q e' → IsOpeningState e'.state → IsOpeningState e.state
  awaiting_opening true config p e q e' h o = same_opening e.state e'.state (ap (λ (y : StreamEntry). y.state) h.2) o
  awaiting_opening false config p e q e' h o = takes_opening config p e q e' h o

  over_opening : (st : StreamEntryState) (config : ChannelConfig) (p : S) (e : StreamEntry) (q : S) (e' : StreamEntry)
      → OpensOver m st config p e (Ok tt) q e' → IsOpeningState e'.state → IsOpeningState e.state
  over_opening AwaitConfig config p e q e' h o = awaiting_opening (is_some e.config) config p e q e' h o
  over_opening AwaitOpen config p e q e' h o = same_opening e.state e'.state (ap (λ (y : StreamEntry). y.state) h.2) o
  over_opening AwaitDcepAck config p e q e' h o = same_opening e.state e'.state (ap (λ (y : StreamEntry). y.state) h.2) o
  over_opening Open config p e q e' h o = same_opening e.state e'.state (ap (λ (y : StreamEntry). y.state) h.2) o
  over_opening Closed config p e q e' h o = same_opening e.state e'.state (ap (λ (y : StreamEntry). y.state) h.2) o

  -- The stream has such an entry then, the others keep theirs, and none is closed. Only the stream is opened from here that was not before,
  -- and it had no entry.
  pub record Opened (id : ℕ) (es es' : List StreamEntry) : Type 0 where
    pub own : HasStanding id es'
    pub others : (s : ℕ) → HasStanding s es → HasStanding s es'
    pub shut : NoneClosed es'
    pub openings : (s : ℕ) → HasOpening s es' → HasOpening s es ⊎ ((id ≡ s) × (HasStanding id es → ⊥))

  awaits_not : (st : StreamEntryState) → st ≡ AwaitOpen → (st ≡ Closed → ⊥) × (st ≡ AwaitConfig → ⊥)
  awaits_not st is =
      ((λ c. let clash : AwaitOpen ≡ Closed = sym is ∙ c in cc), λ c. let clash : AwaitOpen ≡ AwaitConfig = sym is ∙ c in cc)

  opened_is : (id : ℕ) (es fs es' : List StreamEntry) → es' ≡ fs → Opened id es fs → Opened id es es'
  opened_is id es fs es' is h = subst (λ (l : List StreamEntry). Opened id es l) (sym is) h

  opens_at : (place : Option ℕ) (id : ℕ) (config : ChannelConfig) (p : S) (es : List StreamEntry) (q : S) (es' : List StreamEntry)
      → entry_place id es ≡ place → NoneClosed es → OpensAt m place id config p es (Ok tt) q es' → Opened id es es'
  opens_at None id config p es q es' at shut h =
      let new = new_entry id AwaitOpen (Some config) in
      let none = awaits_not AwaitOpen refl in
      opened_is id es _ es' h.1
      (record {
        own = own_insert id es (new_place id es) new refl ((λ c. none.0 c), λ c. absurd (none.1 c));
        others = λ s k. stands_insert s es (new_place id es) new k;
        shut = shut_insert es (new_place id es) new (λ c. none.0 c) shut;
        openings = λ s o. only s (openings_insert s es (new_place id es) new o);
      })
    where
      only : (s : ℕ) → HasOpening s es ⊎ ((id ≡ s) × IsOpeningState AwaitOpen) → HasOpening s es ⊎ ((id ≡ s) × (HasStanding id es → ⊥))
      only s (inl o) = inl o
      only s (inr o) = inr (o.0, λ k. none_listed IsStanding id es (none_placed id es at) k)
  opens_at (Some place) id config p es q es' at shut h =
      let live : h.0.state ≡ Closed → ⊥ = shut_get es place h.0 shut h.2 in
      let stands = over_standing h.0.state config p h.0 q h.1 live h.3 in
      let same = over_id h.0.state config p h.0 q h.1 h.3 in
      let own : h.1.id ≡ id = same ∙ place_number id place es h.0 at h.2 in
      opened_is id es (slice_set es place h.1) es' h.4
      (record {
        own = set_stands id es place h.0 h.1 h.2 own stands;
        others = λ s k. other_stands es place h.0 h.1 s h.2 same stands k;
        shut = other_shut es place h.0 h.1 h.2 stands shut;
        openings = λ s o. inl (other_openings es place h.0 h.1 s h.2 same (over_opening h.0.state config p h.0 q h.1 h.3) o);
      })
    where
      other_stands : (l : List StreamEntry) (i : ℕ) (e e' : StreamEntry) (s : ℕ) → slice_get l i ≡ Some e → e'.id ≡ e.id → IsStanding e'
          → HasStanding s l → HasStanding s (slice_set l i e')
      other_stands [] i e e' s f same st k = absurd k
      other_stands (x ∷ xs) zero e e' s f same st (inl k) =
          inl (same ∙ ap (λ (y : StreamEntry). y.id) (sym (same_Some x e f)) ∙ k.0, st)
      other_stands (x ∷ xs) zero e e' s f same st (inr k) = inr k
      other_stands (x ∷ xs) (suc i) e e' s f same st (inl k) = inl k
      other_stands (x ∷ xs) (suc i) e e' s f same st (inr k) = inr (other_stands xs i e e' s f same st k)

      other_openings : (l : List StreamEntry) (i : ℕ) (e e' : StreamEntry) (s : ℕ) → slice_get l i ≡ Some e → e'.id ≡ e.id
          → (IsOpeningState e'.state → IsOpeningState e.state) → HasOpening s (slice_set l i e') → HasOpening s l
      other_openings [] i e e' s f same keeps o = absurd (no_entry e f)
      other_openings (x ∷ xs) zero e e' s f same keeps (inl o) =
          let is = same_Some x e f in
          inl
          (ap (λ (y : StreamEntry). y.id) is ∙ (sym same ∙ o.0), subst (λ (y : StreamEntry). IsOpeningState y.state) (sym is) (keeps o.1))
      other_openings (x ∷ xs) zero e e' s f same keeps (inr o) = inr o
      other_openings (x ∷ xs) (suc i) e e' s f same keeps (inl o) = inl o
      other_openings (x ∷ xs) (suc i) e e' s f same keeps (inr o) = inr (other_openings xs i e e' s f same keeps o)

      other_shut : (l : List StreamEntry) (i : ℕ) (e e' : StreamEntry) → slice_get l i ≡ Some e → IsStanding e' → NoneClosed l
          → NoneClosed (slice_set l i e')
      other_shut [] i e e' f st k = absurd (no_entry e f)
      other_shut (x ∷ xs) zero e e' f st k = (st.0, k.1)
      other_shut (x ∷ xs) (suc i) e e' f st k = (k.0, other_shut xs i e e' f st k.1)

  pub opens_stand : (id : ℕ) (config : ChannelConfig) (p q : SctpStreams S) → NoneClosed p.entries → OpensStream m id config p (Ok tt) q
      → Opened id p.entries q.entries
  opens_stand id config p q shut h =
      opens_at (entry_place id p.entries) id config p.association p.entries q.association q.entries refl shut h.0

  pub opens_ordered : (id : ℕ) (config : ChannelConfig) (p q : SctpStreams S) → OpensStream m id config p (Ok tt) q → Ascend p.entries → Ascend q.entries
  opens_ordered id config p q h k = open_ascend m id config p.association p.entries (Ok tt) q.association q.entries h.0 k

  -- ---- closes and thresholds

  closes_at : (place : Option ℕ) (id : ℕ) (p : S) (es : List StreamEntry) (resets : List ℕ) (r : Result (Unit {0}) AllocError) (q : S)
      (es' : List StreamEntry) (resets' : List ℕ) → ClosesAt m place id p es resets r q es' resets' → Kept es es'
  closes_at None id p es resets r q es' resets' h = kept_is es es' h.2
  closes_at (Some place) id p es resets r q es' resets' h =
      kept_on es (slice_set es place (marked_entry h.0.0)) es'
      (kept_set es place h.0.0 (marked_entry h.0.0) h.0.1 (marked_kept h.0.0)) (kept_is (slice_set es place (marked_entry h.0.0)) es' h.0.2)

  pub closes_kept : (id : ℕ) (p : SctpStreams S) (r : Result (Unit {0}) AllocError) (q : SctpStreams S) → ClosesDataStream m id p r q
      → Kept p.entries q.entries
  closes_kept id p r q h = closes_at (entry_place id p.entries) id p.association p.entries p.resets r q.association q.entries q.resets h.0

  pub threshold_kept : (n : ℕ) (place : Option ℕ) (p q : SctpStreams S) → SetsThreshold S n place p q → Kept p.entries q.entries
  threshold_kept n None p q h = kept_is p.entries q.entries (ap (λ (y : SctpStreams S). y.entries) h)
  threshold_kept n (Some place) p q h =
      let e' : StreamEntry = record h.0 { threshold = threshold_set n h.0.threshold } in
      kept_on p.entries (slice_set p.entries place e') q.entries
      (kept_set p.entries place h.0 e' h.1 (record { id_is = refl; stands = λ k. k; shut = λ k. k; band_is = refl; opening = λ k. k }))
      (kept_is (slice_set p.entries place e') q.entries (ap (λ (y : SctpStreams S). y.entries) h.2))

  pub threshold_state : (n : ℕ) (place : Option ℕ) (p q : SctpStreams S) → SetsThreshold S n place p q → q.state ≡ p.state
  threshold_state n None p q h = ap (λ (y : SctpStreams S). y.state) h
  threshold_state n (Some place) p q h = ap (λ (y : SctpStreams S). y.state) h.2
