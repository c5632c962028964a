-- Each call of streams leaves the entries in order of their numbers.
use Rattle.std.proofs.Common.{◌≡◌, ℕ, ◌+◌, ◌≤◌, not, Bool, true, false, List, [], ◌∷◌, Option, Some, None, Result, Ok, Err, refl, sym, ap, subst, arith}
use Rattle.std.specs.Prelude.{is_some, if◌then◌else◌}
use Rattle.std.specs.declared.alloc.AllocError.{AllocError}
use Rattle.rtc_wire.specs.declared.channel_config.ChannelConfig.{ChannelConfig}
use Rattle.rtc_parts.specs.declared.assoc_event.AssocEvent.{AssocEvent}
use Rattle.rtc_parts.specs.declared.assoc_event.AssocEvent.TheVariants as assoc
use Rattle.rtc_parts.specs.AssociationMeaning.{AssociationMeaning}
use Rattle.rtc_sctp_entries.specs.declared.asked.Asked.{Asked}
use Rattle.rtc_sctp_entries.specs.declared.asked.Asked.TheVariants as did
use Rattle.rtc_sctp_entries.specs.declared.stream_entry_state.StreamEntryState.{StreamEntryState}
use Rattle.rtc_sctp_entries.specs.declared.stream_entry_state.StreamEntryState.TheVariants.{AwaitOpen, AwaitConfig, AwaitDcepAck, Open, Closed}
use Rattle.rtc_sctp_entries.specs.declared.stream_entry.StreamEntry.{StreamEntry}
use Rattle.rtc_sctp_entries.specs.declared.met.Met.{Met}
use Rattle.rtc_sctp_entries.specs.declared.met.Met.TheVariants.{Nothing, Again, Output, OutOfMemory}
use Rattle.rtc_sctp_entries.specs.Entries.{Ascend, AscendFrom, entry_place, with_entry, new_entry, marked_entry, unclosed, is_closed_state, is_open_awaited}
use Rattle.rtc_sctp_entries.specs.Visits.{Turn, turn}
use Rattle.rtc_sctp_entries.proofs.OrderLemmas.{ascend_with, ascend_filter, ascend_set, none_missing}
use Rattle.rtc_sctp_entries.proofs.VisitIds.{visits_id}
use Rattle.rtc_sctp.specs.Streams.{SctpStreams}
use Rattle.rtc_sctp.specs.StreamCalls.{ConfigBy, TakesConfig, Declined, Answered, OpensAwaiting, OpensOver, OpensAt, ClosesAt, SetsThreshold, SetsThresholdAt}
use Rattle.rtc_sctp.specs.Polls.{finished_entry, FinishesAt, Book, AfterEvent, TakesEvent, NotStarted, NoRoom, NoEvent, Event, VisitedThen, VisitsAll}

-- the closed ones are dropped
pub ascend_unclosed : (es : List StreamEntry) → Ascend es → Ascend (unclosed es)
ascend_unclosed es h = ascend_filter (λ own. not (is_closed_state own.state)) 0 es h

ascend_is : (es es' : List StreamEntry) → es' ≡ es → Ascend es → Ascend es'
ascend_is es es' e h = subst (λ (l : List StreamEntry). Ascend l) (sym e) h

pub ascend_dropped : (es es' : List StreamEntry) → es' ≡ unclosed es → Ascend es → Ascend es'
ascend_dropped es es' e h = ascend_is (unclosed es) es' e (ascend_unclosed es h)

-- what is known of the fields of streams is known of the streams
pub threshold_is : {S : Type 0} (id n place : ℕ) (p0 p : SctpStreams S) (es' : List StreamEntry) → p0 ≡ p → entry_place id p0.entries ≡ Some place → SetsThresholdAt n place p0.entries es'
    → SetsThreshold S n (entry_place id p.entries) p (record p0 { entries = es'; rests = false })
threshold_is {S} id n place p0 p es' view e h =
    subst (λ (x : SctpStreams S). SetsThreshold S n (entry_place id x.entries) x (record p0 { entries = es'; rests = false })) view
    (rw e (h.0, h.1, ap (λ (l : List StreamEntry). record p0 { entries = l; rests = false }) h.2))

-- events
expected_by : (o : Option ℕ) (id : ℕ) (es : List StreamEntry) → entry_place id es ≡ o → Ascend es → Ascend (if is_some o then es else with_entry (new_entry id AwaitConfig None) es)
expected_by (Some place) id es e h = h
expected_by None id es e h = ascend_with (new_entry id AwaitConfig None) es h (none_missing id es e)

finished_id : (b : Bool) (e : StreamEntry) → (if b then e else marked_entry e).id ≡ e.id
finished_id true e = refl
finished_id false e = refl

finishes_ascend : (o : Option ℕ) (es es' : List StreamEntry) → FinishesAt o es es' → Ascend es → Ascend es'
finishes_ascend None es es' h k = ascend_is es es' h k
finishes_ascend (Some place) es es' h k =
    ascend_is _ es' h.2 (ascend_set 0 es place h.0 (finished_entry h.0) h.1 (finished_id (is_open_awaited h.0.state) h.0) k)

after_ascend : (e : AssocEvent) (b b' : Book) → AfterEvent e b b' → Ascend b.entries → Ascend b'.entries
after_ascend assoc.Connected b b' h k = ascend_is _ b'.entries (ap (λ (x : Book). x.entries) h) k
after_ascend assoc.Lost b b' h k = ascend_is _ b'.entries (ap (λ (x : Book). x.entries) h) k
after_ascend (assoc.Readable id) b b' h k = ascend_is _ b'.entries (ap (λ (x : Book). x.entries) h) (expected_by (entry_place id b.entries) id b.entries refl k)
after_ascend (assoc.Writable id) b b' h k = ascend_is _ b'.entries (ap (λ (x : Book). x.entries) h) (expected_by (entry_place id b.entries) id b.entries refl k)
after_ascend (assoc.Finished id) b b' h k = finishes_ascend (entry_place id b.entries) b.entries b'.entries h.0 k
after_ascend (assoc.ResetComplete id) b b' h k = ascend_is _ b'.entries (ap (λ (x : Book). x.entries) h) k
after_ascend (assoc.BufferedAmountLow id) b b' h k = ascend_is _ b'.entries (ap (λ (x : Book). x.entries) h) k

module _ {S : Type 0} (m : AssociationMeaning S) where
  pub event_ascend : (a : S) (b : Book) (met : Met) (a' : S) (b' : Book) → TakesEvent m a b met a' b' → Ascend b.entries → Ascend b'.entries
  event_ascend a b met a' b' (NotStarted s e f g) k = ascend_is _ b'.entries (ap (λ (x : Book). x.entries) g) k
  event_ascend a b met a' b' (NoRoom e f g) k = ascend_is _ b'.entries (ap (λ (x : Book). x.entries) g) k
  event_ascend a b met a' b' (NoEvent s h e g) k = ascend_is _ b'.entries (ap (λ (x : Book). x.entries) g) k
  event_ascend a b met a' b' (Event event s h e f) k = after_ascend event b b' f k

  -- visits
  headed : (low : ℕ) (e e' : StreamEntry) (es es' : List StreamEntry) → e'.id ≡ e.id → low ≤ e.id → AscendFrom (e.id + 1) es → es' ≡ e' ∷ es → AscendFrom low es'
  headed low e e' es es' same le h is =
      subst (λ (l : List StreamEntry). AscendFrom low l) (sym is) (omega (arith, le, same), subst (λ (n : ℕ). AscendFrom (n + 1) es) (sym same) h)

  then_ascend : (now low : ℕ) (e : StreamEntry) (es : List StreamEntry)
      → ((a : S) (rs : List ℕ) (met : Met) (a' : S) (rs' : List ℕ) (es' : List StreamEntry) → VisitsAll m now es a rs met a' rs' es' → AscendFrom (e.id + 1) es')
      → (own : Met) (b : Turn S) (met : Met) (a' : S) (rs' : List ℕ) (es' : List StreamEntry) → b.entry.id ≡ e.id → low ≤ e.id → AscendFrom (e.id + 1) es
      → VisitedThen m (VisitsAll m now es) own es b met a' rs' es' → AscendFrom low es'
  then_ascend now low e es rest Nothing b met a' rs' es' same le h k = headed low e b.entry k.0 es' same le (rest b.association b.resets met a' rs' k.0 k.1) k.2
  then_ascend now low e es rest Again b met a' rs' es' same le h k = headed low e b.entry es es' same le h k.3
  then_ascend now low e es rest (Output o) b met a' rs' es' same le h k = headed low e b.entry es es' same le h k.3
  then_ascend now low e es rest OutOfMemory b met a' rs' es' same le h k = headed low e b.entry es es' same le h k.3

  pub tour_ascend : (now low : ℕ) (es : List StreamEntry) (a : S) (rs : List ℕ) (met : Met) (a' : S) (rs' : List ℕ) (es' : List StreamEntry) → VisitsAll m now es a rs met a' rs' es' → AscendFrom low es → AscendFrom low es'
  tour_ascend now low [] a rs met a' rs' es' h k = subst (λ (l : List StreamEntry). AscendFrom low l) (sym h.3) tt
  tour_ascend now low (e ∷ es) a rs met a' rs' es' h k =
      then_ascend now low e es (λ a rs met a' rs' es' v. tour_ascend now (e.id + 1) es a rs met a' rs' es' v k.1) h.0 h.1 met a' rs' es' (visits_id m now (turn a e rs) h.0 h.1 h.2) k.0 k.1 h.3

  -- streams that are opened and closed
  config_by_id : (a : Asked) (config : ChannelConfig) (e : StreamEntry) (r : Result (Unit {0}) AllocError) (e' : StreamEntry) → ConfigBy a config e r e' → e'.id ≡ e.id
  config_by_id did.Done config e (Ok x) e' h = ap (λ (y : StreamEntry). y.id) h
  config_by_id did.Done config e (Err x) e' h = absurd h
  config_by_id did.Refused config e (Ok x) e' h = ap (λ (y : StreamEntry). y.id) h
  config_by_id did.Refused config e (Err x) e' h = absurd h
  config_by_id did.OutOfMemory config e (Ok x) e' h = absurd h
  config_by_id did.OutOfMemory config e (Err x) e' h = ap (λ (y : StreamEntry). y.id) h

  config_id : (config : ChannelConfig) (p : S) (e : StreamEntry) (r : Result (Unit {0}) AllocError) (q : S) (e' : StreamEntry) → TakesConfig m config p e r q e' → e'.id ≡ e.id
  config_id config p e r q e' (Declined c f g h) = ap (λ (y : StreamEntry). y.id) h
  config_id config p e r q e' (Answered answer c f h) = config_by_id answer config e r e' h

  awaiting_id : (set : Bool) (config : ChannelConfig) (p : S) (e : StreamEntry) (r : Result (Unit {0}) AllocError) (q : S) (e' : StreamEntry) → OpensAwaiting m set config p e r q e' → e'.id ≡ e.id
  awaiting_id true config p e r q e' h = ap (λ (y : StreamEntry). y.id) h.2
  awaiting_id false config p e r q e' h = config_id config p e r q e' h

  pub over_id : (st : StreamEntryState) (config : ChannelConfig) (p : S) (e : StreamEntry) (r : Result (Unit {0}) AllocError) (q : S) (e' : StreamEntry) → OpensOver m st config p e r q e' → e'.id ≡ e.id
  over_id AwaitConfig config p e r q e' h = awaiting_id _ config p e r q e' h
  over_id AwaitOpen config p e r q e' h = ap (λ (y : StreamEntry). y.id) h.2
  over_id AwaitDcepAck config p e r q e' h = ap (λ (y : StreamEntry). y.id) h.2
  over_id Open config p e r q e' h = ap (λ (y : StreamEntry). y.id) h.2
  over_id Closed config p e r q e' h = ap (λ (y : StreamEntry). y.id) h.2

  open_by : (o : Option ℕ) (id : ℕ) (config : ChannelConfig) (p : S) (es : List StreamEntry) (r : Result (Unit {0}) AllocError) (q : S) (es' : List StreamEntry) → entry_place id es ≡ o → OpensAt m o id config p es r q es' → Ascend es → Ascend es'
  open_by None id config p es (Ok x) q es' e h k = ascend_is _ es' h.1 (ascend_with (new_entry id AwaitOpen (Some config)) es k (none_missing id es e))
  open_by None id config p es (Err x) q es' e h k = ascend_is es es' h.1 k
  open_by (Some place) id config p es r q es' e h k = ascend_is _ es' h.4 (ascend_set 0 es place h.0 h.1 h.2 (over_id h.0.state config p h.0 r q h.1 h.3) k)

  pub open_ascend : (id : ℕ) (config : ChannelConfig) (p : S) (es : List StreamEntry) (r : Result (Unit {0}) AllocError) (q : S) (es' : List StreamEntry) → OpensAt m (entry_place id es) id config p es r q es' → Ascend es → Ascend es'
  open_ascend id config p es r q es' h k = open_by (entry_place id es) id config p es r q es' refl h k

  close_by : (o : Option ℕ) (id : ℕ) (p : S) (es : List StreamEntry) (resets : List ℕ) (r : Result (Unit {0}) AllocError) (q : S) (es' : List StreamEntry) (resets' : List ℕ) → ClosesAt m o id p es resets r q es' resets' → Ascend es → Ascend es'
  close_by None id p es resets r q es' resets' h k = ascend_is es es' h.2 k
  close_by (Some place) id p es resets r q es' resets' h k = ascend_is _ es' h.0.2 (ascend_set 0 es place h.0.0 (marked_entry h.0.0) h.0.1 refl k)

  pub close_ascend : (id : ℕ) (p : S) (es : List StreamEntry) (resets : List ℕ) (r : Result (Unit {0}) AllocError) (q : S) (es' : List StreamEntry) (resets' : List ℕ) → ClosesAt m (entry_place id es) id p es resets r q es' resets' → Ascend es → Ascend es'
  close_ascend id p es resets r q es' resets' h k = close_by (entry_place id es) id p es resets r q es' resets' h k
