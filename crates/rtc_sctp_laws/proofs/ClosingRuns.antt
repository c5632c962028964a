-- Over calls in turn the Close of a stream comes before any completed reset.
use Rattle.std.proofs.Common.{◌≡◌, ◌⊎◌, inl, inr, ℕ, ◌==◌, ◌||◌, Bool, true, false, true≢false, List, [], ◌∷◌, ◌++◌, Option, Some, None, Result, Ok, Err, refl, sym, ap, subst, ◌∙◌, arith}
use Rattle.std.specs.declared.alloc.AllocError.{AllocError}
use Rattle.rtc_ready.specs.Signals.{Signals}
use Rattle.rtc_wire.specs.declared.channel_config.ChannelConfig.{ChannelConfig}
use Rattle.rtc_parts.specs.AssociationMeaning.{AssociationMeaning}
use Rattle.rtc_parts.specs.AssociationLaws.{AssociationLaws}
use Rattle.rtc_sctp_entries.specs.declared.asked.Asked.{Asked}
use Rattle.rtc_sctp_entries.specs.declared.asked.Asked.TheVariants as did
use Rattle.rtc_sctp_entries.specs.declared.stream_entry_state.StreamEntryState.{StreamEntryState}
use Rattle.rtc_sctp_entries.specs.declared.stream_entry_state.StreamEntryState.TheVariants.{AwaitOpen, AwaitConfig, AwaitDcepAck, Open, Closed}
use Rattle.rtc_sctp_entries.specs.declared.stream_entry.StreamEntry.{StreamEntry}
use Rattle.rtc_sctp_entries.specs.declared.sctp_event.SctpEvent.{SctpEvent}
use Rattle.rtc_sctp_entries.specs.declared.sctp_event.SctpEvent.TheVariants as event
use Rattle.rtc_sctp_entries.specs.Entries.{entry_place, marked_entry}
use Rattle.rtc_sctp.specs.declared.rtc_sctp_state.RtcSctpState.{RtcSctpState}
use Rattle.rtc_sctp.specs.declared.rtc_sctp_state.RtcSctpState.TheVariants.{Uninited, AwaitRemoteAssociation, AwaitAssociationEstablished, Established}
use Rattle.rtc_sctp_values.specs.declared.proto_error.ProtoError.TheVariants as proto
use Rattle.rtc_sctp_values.specs.declared.sctp_error.SctpError.{SctpError}
use Rattle.rtc_sctp_values.specs.declared.sctp_error.SctpError.TheVariants as sctp
use Rattle.rtc_sctp.specs.Streams.{SctpStreams, is_established}
use Rattle.rtc_sctp_values.specs.InitHalves.{InitHalves}
use Rattle.rtc_sctp.specs.Calls.{Inits, ShutBy, is_ended, WrittenIf, can_write, is_current, InputIf, TimedBy, state_on_input}
use Rattle.rtc_sctp.specs.StreamCalls.{ConfigBy, TakesConfig, Declined, Answered, OpensAwaiting, OpensOver, OpensAt, OpensStream, ClosesAt, ClosesDataStream, SetsThreshold}
use Rattle.rtc_sctp_laws.specs.StreamMessages.{StreamMessage, resets_event, met_of}
use Rattle.rtc_sctp_laws.specs.StreamActs.{CallDid}
use Rattle.rtc_sctp_laws.specs.StreamRuns.{event_of, CallsStreams, Inited, HalvesKept, ShutDown, Wrote, StreamOpened, StreamClosed, ThresholdSet, LimitSet, InputTaken, TimeoutTaken, PushedBack, Polled}
use Rattle.rtc_sctp_laws.specs.StreamRuns.{CallsInTurn, all_events, is_closing_entry, has_closing_entry, closes_first}
use Rattle.rtc_sctp_laws.proofs.CallActs.{shuts_did, writes_did, input_did, timeout_did, opens_did, closes_did}
use Rattle.rtc_sctp_laws.proofs.EndingLemmas.{ending_is, ending_id, ending_marked, ending_past, ending_insert, ending_set, ending_unclosed}
use Rattle.rtc_sctp_laws.proofs.ClosingPolls.{started_moved, Waits, waits_is, IsClose, After, poll_after}

-- an entry that is marked is to be closed where it was before
marked_ending : (id : ℕ) (e e' : StreamEntry) → e' ≡ marked_entry e → is_closing_entry id e ≡ true → is_closing_entry id e' ≡ true
marked_ending id e e' f h = ap (is_closing_entry id) f ∙ ending_is id (marked_entry e) (ending_id id e h) refl (ending_past id e h)

module _ {S : Type 0} (m : AssociationMeaning S) (w : AssociationLaws m) where
  -- a call that leaves the association started and the state established
  call_waits : (id : ℕ) (ins : List (List ℕ)) (wrote : List StreamMessage) (p q : SctpStreams S) → CallDid m ins wrote p q → is_established q.state ≡ true → has_closing_entry id q.entries ≡ true → Waits m w id p → Waits m w id q
  call_waits id ins wrote p q d s e k = record { established = s; started = started_moved m w d.did.acts p.association q.association k.started d.did.went; ending = e }

  -- a call that leaves the entries and the state
  kept_waits : (id : ℕ) (ins : List (List ℕ)) (wrote : List StreamMessage) (p u q : SctpStreams S) → CallDid m ins wrote p q → q ≡ u → u.state ≡ p.state → u.entries ≡ p.entries → Waits m w id p → Waits m w id q
  kept_waits id ins wrote p u q d f s e k =
      call_waits id ins wrote p q d (ap (λ (x : SctpStreams S). is_established x.state) f ∙ ap is_established s ∙ k.established)
      (ap (λ (x : SctpStreams S). has_closing_entry id x.entries) f ∙ ap (has_closing_entry id) e ∙ k.ending) k

  inits_waits : (id : ℕ) (client : Bool) (now max : ℕ) (snap : Option InitHalves) (p : SctpStreams S) (r : Result (Unit {0}) SctpError) (q : SctpStreams S) → Inits m client now max snap p r q → Waits m w id p → Waits m w id q
  inits_waits id client now max snap p (Ok x) q h k = absurd (true≢false (sym k.started ∙ h.0))
  inits_waits id client now max snap p (Err (sctp.Proto proto.Started)) q h k = waits_is m w id p q h.1 k
  inits_waits id client now max snap p (Err (sctp.Proto proto.SnapHalf)) q h k = waits_is m w id p q h.2 k
  inits_waits id client now max snap p (Err (sctp.Proto proto.Fault)) q h k = absurd (true≢false (sym k.started ∙ h.0))
  inits_waits id client now max snap p (Err sctp.Alloc) q h k = absurd (true≢false (sym k.started ∙ h.0))
  inits_waits id client now max snap p (Err e) q h k = absurd h

  shut_waits : (b : Bool) (id : ℕ) (p : SctpStreams S) (r : Result (Unit {0}) SctpError) (q : SctpStreams S) → CallDid m [] [] p q → ShutBy m b p r q → Waits m w id p → Waits m w id q
  shut_waits true id p r q d h k = waits_is m w id p q h.1 k
  shut_waits false id p (Ok x) q d h k = kept_waits id [] [] p _ q d h.1 refl refl k
  shut_waits false id p (Err (sctp.Proto proto.Fault)) q d h k = kept_waits id [] [] p _ q d h.1 refl refl k
  shut_waits false id p (Err sctp.Alloc) q d h k = kept_waits id [] [] p _ q d h.1 refl refl k
  shut_waits false id p (Err e) q d h k = absurd h

  written_waits : (b c : Bool) (id other : ℕ) (binary : Bool) (bytes : List ℕ) (wrote : List StreamMessage) (p : SctpStreams S) (r : Result ℕ SctpError) (q : SctpStreams S) → CallDid m [] wrote p q → WrittenIf m b c other binary bytes p r q → Waits m w id p → Waits m w id q
  written_waits false c id other binary bytes wrote p r q d h k = waits_is m w id p q h.1 k
  written_waits true false id other binary bytes wrote p r q d h k = waits_is m w id p q h.1 k
  written_waits true true id other binary bytes wrote p r q d h k = kept_waits id [] wrote p _ q d h.3 refl refl k

  -- streams that are opened and closed
  config_by : (a : Asked) (id : ℕ) (config : ChannelConfig) (e : StreamEntry) (r : Result (Unit {0}) AllocError) (e' : StreamEntry) → ConfigBy a config e r e' → is_closing_entry id e ≡ true → is_closing_entry id e' ≡ true
  config_by did.Done id config e (Ok x) e' h k = ap (is_closing_entry id) h ∙ ending_is id (record e { config = Some config; state = Open }) (ending_id id e k) (ending_marked id e k) refl
  config_by did.Done id config e (Err x) e' h k = absurd h
  config_by did.Refused id config e (Ok x) e' h k = marked_ending id e e' h k
  config_by did.Refused id config e (Err x) e' h k = absurd h
  config_by did.OutOfMemory id config e (Ok x) e' h k = absurd h
  config_by did.OutOfMemory id config e (Err x) e' h k = ap (is_closing_entry id) h ∙ k

  config_ending : (id : ℕ) (config : ChannelConfig) (a : S) (e : StreamEntry) (r : Result (Unit {0}) AllocError) (b : S) (e' : StreamEntry) → TakesConfig m config a e r b e' → is_closing_entry id e ≡ true → is_closing_entry id e' ≡ true
  config_ending id config a e r b e' (Declined c f g h) k = marked_ending id e e' h k
  config_ending id config a e r b e' (Answered answer c f h) k = config_by answer id config e r e' h k

  awaiting_ending : (set : Bool) (id : ℕ) (config : ChannelConfig) (a : S) (e : StreamEntry) (r : Result (Unit {0}) AllocError) (b : S) (e' : StreamEntry) → OpensAwaiting m set config a e r b e' → is_closing_entry id e ≡ true → is_closing_entry id e' ≡ true
  awaiting_ending true id config a e r b e' h k = marked_ending id e e' h.2 k
  awaiting_ending false id config a e r b e' h k = config_ending id config a e r b e' h k

  over_ending : (st : StreamEntryState) (id : ℕ) (config : ChannelConfig) (a : S) (e : StreamEntry) (r : Result (Unit {0}) AllocError) (b : S) (e' : StreamEntry) → OpensOver m st config a e r b e' → is_closing_entry id e ≡ true → is_closing_entry id e' ≡ true
  over_ending AwaitConfig id config a e r b e' h k = awaiting_ending _ id config a e r b e' h k
  over_ending AwaitOpen id config a e r b e' h k = marked_ending id e e' h.2 k
  over_ending AwaitDcepAck id config a e r b e' h k = marked_ending id e e' h.2 k
  over_ending Open id config a e r b e' h k = marked_ending id e e' h.2 k
  over_ending Closed id config a e r b e' h k = marked_ending id e e' h.2 k

  open_ending : (o : Option ℕ) (id other : ℕ) (config : ChannelConfig) (a : S) (es : List StreamEntry) (r : Result (Unit {0}) AllocError) (b : S) (es' : List StreamEntry) → OpensAt m o other config a es r b es' → has_closing_entry id es ≡ true → has_closing_entry id es' ≡ true
  open_ending None id other config a es (Ok x) b es' h k = ap (has_closing_entry id) h.1 ∙ ending_insert id es _ _ k
  open_ending None id other config a es (Err x) b es' h k = ap (has_closing_entry id) h.1 ∙ k
  open_ending (Some place) id other config a es r b es' h k = ap (has_closing_entry id) h.4 ∙ ending_set id es place h.0 h.1 h.2 (λ j. over_ending h.0.state id config a h.0 r b h.1 h.3 j) k

  opens_waits : (id other : ℕ) (config : ChannelConfig) (p : SctpStreams S) (r : Result (Unit {0}) AllocError) (q : SctpStreams S) → OpensStream m other config p r q → Waits m w id p → Waits m w id q
  opens_waits id other config p r q h k =
      call_waits id [] [] p q (opens_did m other config p r q h) (ap (λ (x : SctpStreams S). is_established x.state) h.1 ∙ k.established)
      (open_ending (entry_place other p.entries) id other config p.association p.entries r q.association q.entries h.0 k.ending) k

  close_ending : (o : Option ℕ) (id other : ℕ) (a : S) (es : List StreamEntry) (resets : List ℕ) (r : Result (Unit {0}) AllocError) (b : S) (es' : List StreamEntry) (resets' : List ℕ) → ClosesAt m o other a es resets r b es' resets' → has_closing_entry id es ≡ true → has_closing_entry id es' ≡ true
  close_ending None id other a es resets r b es' resets' h k = ap (has_closing_entry id) h.2 ∙ k
  close_ending (Some place) id other a es resets r b es' resets' h k = ap (has_closing_entry id) h.0.2 ∙ ending_set id es place h.0.0 (marked_entry h.0.0) h.0.1 (λ j. marked_ending id h.0.0 _ refl j) k

  closes_waits : (id other : ℕ) (p : SctpStreams S) (r : Result (Unit {0}) AllocError) (q : SctpStreams S) → ClosesDataStream m other p r q → Waits m w id p → Waits m w id q
  closes_waits id other p r q h k =
      call_waits id [] [] p q (closes_did m other p r q h) (ap (λ (x : SctpStreams S). is_established x.state) h.1 ∙ k.established)
      (close_ending (entry_place other p.entries) id other p.association p.entries p.resets r q.association q.entries q.resets h.0 k.ending) k

  threshold_waits : (o : Option ℕ) (id n : ℕ) (p q : SctpStreams S) → SetsThreshold S n o p q → Waits m w id p → Waits m w id q
  threshold_waits None id n p q h k = waits_is m w id p q h k
  threshold_waits (Some place) id n p q h k =
      waits_is m w id _ q h.2 (record { established = k.established; started = k.started; ending = ending_set id p.entries place h.0 _ h.1 (λ j. j) k.ending })

  -- packets and moments
  input_established : (st : RtcSctpState) → is_established st ≡ true → is_established (state_on_input st) ≡ true
  input_established Uninited h = h
  input_established AwaitRemoteAssociation h = h
  input_established AwaitAssociationEstablished h = h
  input_established Established h = h

  input_waits : (b : Bool) (id now : ℕ) (bytes : List ℕ) (ins : List (List ℕ)) (p : SctpStreams S) (r : Result (Unit {0}) AllocError) (q : SctpStreams S) → CallDid m ins [] p q → InputIf m b now bytes p r q → Waits m w id p → Waits m w id q
  input_waits false id now bytes ins p r q d h k = waits_is m w id p q h.1 k
  input_waits true id now bytes ins p r q d h k =
      call_waits id ins [] p q d (ap (λ (x : SctpStreams S). is_established x.state) h.1 ∙ input_established p.state k.established)
      (ap (λ (x : SctpStreams S). has_closing_entry id x.entries) h.1 ∙ k.ending) k

  -- a moment is kept, and closed entries are dropped
  timed : (id : ℕ) (p u q : SctpStreams S) → CallDid m [] [] p q → q ≡ u → is_established u.state ≡ true → has_closing_entry id u.entries ≡ true → Waits m w id p → Waits m w id q
  timed id p u q d f s e k =
      call_waits id [] [] p q d (ap (λ (x : SctpStreams S). is_established x.state) f ∙ s) (ap (λ (x : SctpStreams S). has_closing_entry id x.entries) f ∙ e) k

  timed_waits : (st : RtcSctpState) (id now : ℕ) (p : SctpStreams S) (wake : Signals) (r : Result (Unit {0}) AllocError) (q : SctpStreams S) (wake' : Signals) → CallDid m [] [] p q → TimedBy m st now p wake r q wake' → Waits m w id p → Waits m w id q
  timed_waits Uninited id now p wake r q wake' d h k = waits_is m w id p q h.1 k
  timed_waits AwaitRemoteAssociation id now p wake r q wake' d h k = timed id p _ q d h.1 k.established (ending_unclosed id p.entries k.ending) k
  timed_waits AwaitAssociationEstablished id now p wake r q wake' d h k = timed id p _ q d h.1 k.established (ending_unclosed id p.entries k.ending) k
  timed_waits Established id now p wake r q wake' d h k = timed id p _ q d h.1 k.established (ending_unclosed id p.entries k.ending) k

  -- what a call leaves: nothing was answered; or an event, which is the Close, or else no completed reset
  data CallAfter (id : ℕ) (events : List SctpEvent) (q : SctpStreams S) : Type 0 where
    Quiet : events ≡ [] → Waits m w id q → CallAfter id events q
    Spoke : (e : SctpEvent) → events ≡ e ∷ [] → IsClose id e ⊎ ((resets_event e ≡ []) × Waits m w id q) → CallAfter id events q

  polled : (id : ℕ) (events : List SctpEvent) (r : Result (Option SctpEvent) AllocError) (q : SctpStreams S) → events ≡ event_of r → After m w id (met_of r) q → CallAfter id events q
  polled id events (Ok None) q e h = Quiet e h
  polled id events (Ok (Some o)) q e h = Spoke o e h
  polled id events (Err x) q e h = Quiet e h

  call_after : (id : ℕ) (p : SctpStreams S) (events : List SctpEvent) (q : SctpStreams S) → CallsStreams m p events q → Waits m w id p → CallAfter id events q
  call_after id p events q (Inited client now max snap r h e) k = Quiet e (inits_waits id client now max snap p r q h k)
  call_after id p events q (HalvesKept h e) k =
      Quiet e (waits_is m w id _ q h (record { established = k.established; started = k.started; ending = k.ending }))
  call_after id p events q (ShutDown r h e) k = Quiet e (shut_waits (is_ended m p.association) id p r q (shuts_did m p r q h) h k)
  call_after id p events q (Wrote other binary bytes r h e) k = Quiet e (written_waits (can_write m other p) (is_current m other p) id other binary bytes _ p r q (writes_did m other binary bytes p r q h) h k)
  call_after id p events q (StreamOpened other config r h e) k = Quiet e (opens_waits id other config p r q h k)
  call_after id p events q (StreamClosed other r h e) k = Quiet e (closes_waits id other p r q h k)
  call_after id p events q (ThresholdSet other n h e) k = Quiet e (threshold_waits (entry_place other p.entries) id n p q h k)
  call_after id p events q (LimitSet n h e) k = Quiet e (waits_is m w id _ q h (record { established = k.established; started = k.started; ending = k.ending }))
  call_after id p events q (InputTaken now bytes r h e) k = Quiet e (input_waits (m.started p.association) id now bytes _ p r q (input_did m now bytes p r q h) h k)
  call_after id p events q (TimeoutTaken now wake wake' r h e) k = Quiet e (timed_waits p.state id now p wake r q wake' (timeout_did m now p wake r q wake' h) h k)
  call_after id p events q (PushedBack packets h e) k = Quiet e (waits_is m w id _ q h (record { established = k.established; started = k.started; ending = k.ending }))
  call_after id p events q (Polled r h e) k = polled id events r q e (poll_after m w id p r q h k)

  or_true : (a b : Bool) → b ≡ true → (a || b) ≡ true
  or_true true b h = refl
  or_true false b h = h

  -- an event that is no completed reset goes before
  first_more : (id : ℕ) (e : SctpEvent) (events : List SctpEvent) → resets_event e ≡ [] → closes_first id events ≡ true → closes_first id (e ∷ events) ≡ true
  first_more id (event.Transmit packets) events r h = h
  first_more id (event.Open other label) events r h = h
  first_more id (event.Close other pending) events r h = or_true (other == id) _ h
  first_more id (event.StreamResetComplete other) events r h = absurd (some_reset other r)
    where
      some_reset : (x : ℕ) → x ∷ [] ≡ [] → ⊥
      some_reset x f = cc
  first_more id (event.Data other binary bytes) events r h = h
  first_more id (event.BufferedAmountLow other) events r h = h
  first_more id event.AssociationLost events r h = h

  close_now : (id : ℕ) (e : SctpEvent) (events : List SctpEvent) → IsClose id e → closes_first id (e ∷ events) ≡ true
  close_now id e events h =
      let same : (id == id) ≡ true = grind arith in
      subst (λ (x : SctpEvent). closes_first id (x ∷ events) ≡ true) (sym h.1) (rw same refl)

  -- the Close of a stream that is to be closed comes before any completed reset
  pub closes_first_in : (id : ℕ) (all : List (List SctpEvent)) (p q : SctpStreams S) → CallsInTurn m all p q → Waits m w id p → closes_first id (all_events all) ≡ true
  closes_first_in id [] p q h k = refl
  closes_first_in id (events ∷ more) p q h k = by_call (call_after id p events h.0 h.1 k) (λ j. closes_first_in id more h.0 q h.2 j)
    where
      by_call : CallAfter id events h.0 → (Waits m w id h.0 → closes_first id (all_events more) ≡ true) → closes_first id (events ++ all_events more) ≡ true
      by_call (Quiet e j) rest = subst (λ (l : List SctpEvent). closes_first id (l ++ all_events more) ≡ true) (sym e) (rest j)
      by_call (Spoke o e (inl j)) rest = subst (λ (l : List SctpEvent). closes_first id (l ++ all_events more) ≡ true) (sym e) (close_now id o (all_events more) j)
      by_call (Spoke o e (inr j)) rest = subst (λ (l : List SctpEvent). closes_first id (l ++ all_events more) ≡ true) (sym e) (first_more id o (all_events more) j.0 (rest j.1))
