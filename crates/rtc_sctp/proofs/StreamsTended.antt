-- The calls on one stream, and events, keep the entries tended.
use Rattle.std.proofs.Common.{◌≡◌, inl, inr, ℕ, Bool, true, false, true≢false, List, [], ◌∷◌, ◌++◌, take, drop, get_or, length, ◌<◌, Option, Some, None, Result, Ok, Err, refl, sym, ap, subst, ◌∙◌, zero, suc, arith}
use Rattle.std.specs.Prelude.{slice_get, slice_set, if◌then◌else◌, is_some}
use Rattle.std.proofs.lemmas.Bool.{cases_eq}
use Rattle.std.proofs.lemmas.Option.{get_or_from_slice_get, slice_get_within}
use Rattle.std.specs.declared.alloc.AllocError.{AllocError}
use Rattle.rtc_wire.specs.declared.channel_config.ChannelConfig.{ChannelConfig}
use Rattle.rtc_parts.specs.AssociationMeaning.{AssociationMeaning}
use Rattle.rtc_parts.specs.AssociationLaws.{AssociationLaws}
use Rattle.rtc_sctp_values.specs.StreamIds.{has_id}
use Rattle.rtc_sctp_entries.specs.declared.asked.Asked.{Asked}
use Rattle.rtc_sctp_entries.specs.declared.asked.Asked.TheVariants as did
use Rattle.rtc_sctp_entries.specs.declared.stream_entry_state.StreamEntryState.{StreamEntryState}
use Rattle.rtc_sctp_entries.specs.declared.stream_entry_state.StreamEntryState.TheVariants.{AwaitOpen, AwaitConfig, AwaitDcepAck, Open, Closed}
use Rattle.rtc_sctp_entries.specs.declared.stream_entry.StreamEntry.{StreamEntry}
use Rattle.rtc_sctp_entries.specs.Entries.{entry_place, with_entry, new_entry, new_place, marked_entry, is_closed_state, is_open_awaited}
use Rattle.rtc_sctp_entries.proofs.UntoldVisits.{Untold, untold_none, untold_ended, untold_reliability}
use Rattle.rtc_sctp_entries.proofs.OrderLemmas.{ascend_set, ascend_with, none_missing}
use Rattle.rtc_sctp.specs.declared.agenda.Agenda.{Agenda}
use Rattle.rtc_sctp.specs.StreamCalls.{ConfigBy, TakesConfig, Declined, Answered, OpensAwaiting, OpensOver, OpensAt, MarksAt, SetsThresholdAt, EndsStream, NoRoom, Ended, EndsIf, ClosesAt}
use Rattle.rtc_sctp.specs.Polls.{finished_entry, FinishesAt}
use Rattle.rtc_sctp.specs.Rest.{AreUnclosed, AreTended}
use Rattle.rtc_sctp.proofs.CallsTended.{tended_set}
use Rattle.rtc_sctp.proofs.CountLemmas.{has_entry_with}
use Rattle.rtc_sctp.proofs.OrderKept.{over_id}
use Rattle.rtc_sctp.proofs.TendedLemmas.{tended_on}
use Rattle.rtc_sctp.proofs.IdSteps.{place_is}
use Rattle.rtc_sctp.proofs.RestLemmas.{others_insert}

-- an entry of a list with none closed is not closed
unclosed_at : (es : List StreamEntry) (i : ℕ) (e : StreamEntry) → slice_get es i ≡ Some e → AreUnclosed es → is_closed_state e.state ≡ false
unclosed_at es i e at h = subst (λ (x : StreamEntry). is_closed_state x.state ≡ false) (get_or_from_slice_get es i e e at) (by es i (slice_get_within es i e at) h)
  where
    by : (xs : List StreamEntry) (k : ℕ) → k < length xs → AreUnclosed xs → is_closed_state (get_or xs k e).state ≡ false
    by [] k lt all = absurd (omega (arith, lt))
    by (x ∷ xs) zero lt all = all.0
    by (x ∷ xs) (suc k) lt all = by xs k (omega (arith, lt)) all.1

unclosed_append : (es fs : List StreamEntry) → AreUnclosed es → AreUnclosed fs → AreUnclosed (es ++ fs)
unclosed_append [] fs h k = k
unclosed_append (e ∷ es) fs h k = (h.0, unclosed_append es fs h.1 k)

unclosed_take : (n : ℕ) (es : List StreamEntry) → AreUnclosed es → AreUnclosed (take n es)
unclosed_take zero es h = tt
unclosed_take (suc n) [] h = tt
unclosed_take (suc n) (e ∷ es) h = (h.0, unclosed_take n es h.1)

unclosed_drop : (n : ℕ) (es : List StreamEntry) → AreUnclosed es → AreUnclosed (drop n es)
unclosed_drop zero es h = h
unclosed_drop (suc n) [] h = tt
unclosed_drop (suc n) (e ∷ es) h = unclosed_drop n es h.1

-- the entry at the place of an id is of that id
own_id : (id place : ℕ) (es : List StreamEntry) (e : StreamEntry) → entry_place id es ≡ Some place → slice_get es place ≡ Some e → e.id ≡ id
own_id id place es e is at = ap (λ (x : StreamEntry). x.id) (sym (get_or_from_slice_get es place e e at)) ∙ (place_is id place es e is).1

module _ {S : Type 0} (m : AssociationMeaning S) where
  -- the entry of a noted id is another one of this id
  pub tended_at : (a : S) (id place : ℕ) (es : List StreamEntry) (e e' : StreamEntry) (agenda : Agenda) → AreTended m a es agenda → has_id id agenda.streams ≡ true
      → entry_place id es ≡ Some place → slice_get es place ≡ Some e → e'.id ≡ e.id → (is_closed_state e.state ≡ false → is_closed_state e'.state ≡ false)
      → AreTended m a (slice_set es place e') agenda
  tended_at a id place es e e' agenda h noted is at same still =
      let own : e'.id ≡ id = same ∙ own_id id place es e is at in
      tended_set m a es place e' agenda h (ap (λ n. has_id n agenda.streams) own ∙ noted)
      (ap (λ (x : StreamEntry). x.id) (get_or_from_slice_get es place e e' at) ∙ sym same) (λ all. still (unclosed_at es place e at all))
      (ascend_set 0 es place e e' at same h.ascend)

  -- a noted id gets an entry, where it has none
  pub tended_with : (a : S) (es : List StreamEntry) (e : StreamEntry) (agenda : Agenda) → AreTended m a es agenda → has_id e.id agenda.streams ≡ true
      → has_id e.id agenda.buffered ≡ true → entry_place e.id es ≡ None → is_closed_state e.state ≡ false → AreTended m a (with_entry e es) agenda
  tended_with a es e agenda h noted counts none live = record {
    ascend = ascend_with e es h.ascend (none_missing e.id es none);
    rest = others_insert m a agenda.streams es (new_place e.id es) e noted h.rest;
    unclosed_all = λ k.
        unclosed_append (take (new_place e.id es) es) (e ∷ drop (new_place e.id es) es) (unclosed_take (new_place e.id es) es (h.unclosed_all k))
        (live, unclosed_drop (new_place e.id es) es (h.unclosed_all k));
    counted = λ id has out.
        elim (cases_eq id e.id) [
          | inl same ↦ absurd (true≢false (sym counts ∙ ap (λ n. has_id n agenda.buffered) (sym same) ∙ out))
          | inr apart ↦ h.counted id (sym (has_entry_with id es e apart) ∙ has) out
        ];
  }

  -- an entry is marked, or gets a threshold to hand over
  pub tended_marked : (a : S) (id place : ℕ) (es es' : List StreamEntry) (agenda : Agenda) → AreTended m a es agenda → has_id id agenda.streams ≡ true
      → entry_place id es ≡ Some place → MarksAt place es es' → AreTended m a es' agenda
  tended_marked a id place es es' agenda h noted is k =
      subst (λ (l : List StreamEntry). AreTended m a l agenda) (sym k.2) (tended_at a id place es k.0 (marked_entry k.0) agenda h noted is k.1 refl (λ live. live))

  pub tended_threshold : (a : S) (id n place : ℕ) (es es' : List StreamEntry) (agenda : Agenda) → AreTended m a es agenda → has_id id agenda.streams ≡ true
      → entry_place id es ≡ Some place → SetsThresholdAt n place es es' → AreTended m a es' agenda
  tended_threshold a id n place es es' agenda h noted is k =
      subst (λ (l : List StreamEntry). AreTended m a l agenda) (sym k.2) (tended_at a id place es k.0 _ agenda h noted is k.1 refl (λ live. live))

  finished_id : (b : Bool) (e : StreamEntry) → (if b then e else marked_entry e).id ≡ e.id
  finished_id true e = refl
  finished_id false e = refl

  finished_state : (b : Bool) (e : StreamEntry) → (if b then e else marked_entry e).state ≡ e.state
  finished_state true e = refl
  finished_state false e = refl

  -- the other end closed a stream
  pub tended_finished : (o : Option ℕ) (a : S) (id : ℕ) (es es' : List StreamEntry) (agenda : Agenda) → AreTended m a es agenda → has_id id agenda.streams ≡ true
      → entry_place id es ≡ o → FinishesAt o es es' → AreTended m a es' agenda
  tended_finished None a id es es' agenda h noted is k = subst (λ (l : List StreamEntry). AreTended m a l agenda) (sym k) h
  tended_finished (Some place) a id es es' agenda h noted is k =
      subst (λ (l : List StreamEntry). AreTended m a l agenda) (sym k.2)
      (tended_at a id place es k.0 (finished_entry k.0) agenda h noted is k.1 (finished_id (is_open_awaited k.0.state) k.0)
      (λ live. ap is_closed_state (finished_state (is_open_awaited k.0.state) k.0) ∙ live))

  -- the other end uses a stream
  pub tended_expected : (o : Option ℕ) (a : S) (id : ℕ) (es : List StreamEntry) (agenda : Agenda) → AreTended m a es agenda → has_id id agenda.streams ≡ true
      → has_id id agenda.buffered ≡ true → entry_place id es ≡ o → AreTended m a (if is_some o then es else with_entry (new_entry id AwaitConfig None) es) agenda
  tended_expected None a id es agenda h noted counts is = tended_with a es (new_entry id AwaitConfig None) agenda h noted counts is refl
  tended_expected (Some place) a id es agenda h noted counts is = h

module _ {S : Type 0} (m : AssociationMeaning S) (w : AssociationLaws m) where
  -- a stream is closed
  ends_untold : (id : ℕ) (p : S) (resets : List ℕ) (r : Result (Unit {0}) AllocError) (q : S) (resets' : List ℕ) → EndsStream m id p resets r q resets' → Untold m p q
  ends_untold id p resets r q resets' (NoRoom e same kept) = subst (λ (x : S). Untold m p x) (sym same) (untold_none m p)
  ends_untold id p resets r q resets' (Ended answer asks by) = untold_ended m p q id asks.result asks.called

  ends_if_untold : (b : Bool) (id : ℕ) (p : S) (resets : List ℕ) (r : Result (Unit {0}) AllocError) (q : S) (resets' : List ℕ) → EndsIf m b id p resets r q resets' → Untold m p q
  ends_if_untold false id p resets r q resets' h = subst (λ (x : S). Untold m p x) (sym h.1) (untold_none m p)
  ends_if_untold true id p resets r q resets' h = ends_untold id p resets r q resets' h

  closes_tended : (o : Option ℕ) (id : ℕ) (p : S) (es : List StreamEntry) (resets : List ℕ) (r : Result (Unit {0}) AllocError) (q : S) (es' : List StreamEntry) (resets' : List ℕ) (agenda : Agenda)
      → entry_place id es ≡ o → AreTended m p es agenda → has_id id agenda.streams ≡ true → ClosesAt m o id p es resets r q es' resets' → AreTended m q es' agenda
  closes_tended None id p es resets r q es' resets' agenda is h noted k =
      subst (λ (x : S). AreTended m x es' agenda) (sym k.1) (subst (λ (l : List StreamEntry). AreTended m p l agenda) (sym k.2) h)
  closes_tended (Some place) id p es resets r q es' resets' agenda is h noted k =
      tended_on m w p q es' agenda (ends_if_untold (m.started p) id p resets r q resets' k.1) (tended_marked m p id place es es' agenda h noted is k.0)

  pub tended_ended : (id : ℕ) (p : S) (es : List StreamEntry) (resets : List ℕ) (r : Result (Unit {0}) AllocError) (q : S) (es' : List StreamEntry) (resets' : List ℕ) (agenda : Agenda)
      → AreTended m p es agenda → has_id id agenda.streams ≡ true → ClosesAt m (entry_place id es) id p es resets r q es' resets' → AreTended m q es' agenda
  tended_ended id p es resets r q es' resets' agenda h noted k = closes_tended (entry_place id es) id p es resets r q es' resets' agenda refl h noted k

  -- a stream is opened
  config_untold : (config : ChannelConfig) (p : S) (e : StreamEntry) (r : Result (Unit {0}) AllocError) (q : S) (e' : StreamEntry) → TakesConfig m config p e r q e' → Untold m p q
  config_untold config p e r q e' (Declined c f same h) = subst (λ (x : S). Untold m p x) (sym same) (untold_none m p)
  config_untold config p e r q e' (Answered answer c asks h) = untold_reliability m p q e.id _ _ _ asks.result asks.called

  awaiting_untold : (b : Bool) (config : ChannelConfig) (p : S) (e : StreamEntry) (r : Result (Unit {0}) AllocError) (q : S) (e' : StreamEntry) → OpensAwaiting m b config p e r q e' → Untold m p q
  awaiting_untold true config p e r q e' h = subst (λ (x : S). Untold m p x) (sym h.1) (untold_none m p)
  awaiting_untold false config p e r q e' h = config_untold config p e r q e' h

  over_untold : (st : StreamEntryState) (config : ChannelConfig) (p : S) (e : StreamEntry) (r : Result (Unit {0}) AllocError) (q : S) (e' : StreamEntry) → OpensOver m st config p e r q e' → Untold m p q
  over_untold AwaitConfig config p e r q e' h = awaiting_untold (is_some e.config) config p e r q e' h
  over_untold AwaitOpen config p e r q e' h = subst (λ (x : S). Untold m p x) (sym h.1) (untold_none m p)
  over_untold AwaitDcepAck config p e r q e' h = subst (λ (x : S). Untold m p x) (sym h.1) (untold_none m p)
  over_untold Open config p e r q e' h = subst (λ (x : S). Untold m p x) (sym h.1) (untold_none m p)
  over_untold Closed config p e r q e' h = subst (λ (x : S). Untold m p x) (sym h.1) (untold_none m p)

  -- which entry that leaves
  config_live : (answer : Asked) (config : ChannelConfig) (e : StreamEntry) (r : Result (Unit {0}) AllocError) (e' : StreamEntry) → ConfigBy answer config e r e' → is_closed_state e.state ≡ false → is_closed_state e'.state ≡ false
  config_live did.Done config e (Ok x) e' h live = ap (λ (y : StreamEntry). is_closed_state y.state) h
  config_live did.Done config e (Err x) e' h live = absurd h
  config_live did.Refused config e (Ok x) e' h live = ap (λ (y : StreamEntry). is_closed_state y.state) h ∙ live
  config_live did.Refused config e (Err x) e' h live = absurd h
  config_live did.OutOfMemory config e (Ok x) e' h live = absurd h
  config_live did.OutOfMemory config e (Err x) e' h live = ap (λ (y : StreamEntry). is_closed_state y.state) h ∙ live

  takes_live : (config : ChannelConfig) (p : S) (e : StreamEntry) (r : Result (Unit {0}) AllocError) (q : S) (e' : StreamEntry) → TakesConfig m config p e r q e' → is_closed_state e.state ≡ false → is_closed_state e'.state ≡ false
  takes_live config p e r q e' (Declined c f same h) live = ap (λ (y : StreamEntry). is_closed_state y.state) h ∙ live
  takes_live config p e r q e' (Answered answer c asks h) live = config_live answer config e r e' h live

  awaiting_live : (b : Bool) (config : ChannelConfig) (p : S) (e : StreamEntry) (r : Result (Unit {0}) AllocError) (q : S) (e' : StreamEntry) → OpensAwaiting m b config p e r q e' → is_closed_state e.state ≡ false → is_closed_state e'.state ≡ false
  awaiting_live true config p e r q e' h live = ap (λ (y : StreamEntry). is_closed_state y.state) h.2 ∙ live
  awaiting_live false config p e r q e' h live = takes_live config p e r q e' h live

  over_live : (st : StreamEntryState) (config : ChannelConfig) (p : S) (e : StreamEntry) (r : Result (Unit {0}) AllocError) (q : S) (e' : StreamEntry) → OpensOver m st config p e r q e' → is_closed_state e.state ≡ false → is_closed_state e'.state ≡ false
  over_live AwaitConfig config p e r q e' h live = awaiting_live (is_some e.config) config p e r q e' h live
  over_live AwaitOpen config p e r q e' h live = ap (λ (y : StreamEntry). is_closed_state y.state) h.2 ∙ live
  over_live AwaitDcepAck config p e r q e' h live = ap (λ (y : StreamEntry). is_closed_state y.state) h.2 ∙ live
  over_live Open config p e r q e' h live = ap (λ (y : StreamEntry). is_closed_state y.state) h.2 ∙ live
  over_live Closed config p e r q e' h live = ap (λ (y : StreamEntry). is_closed_state y.state) h.2 ∙ live

  opens_tended : (o : Option ℕ) (id : ℕ) (config : ChannelConfig) (p : S) (es : List StreamEntry) (r : Result (Unit {0}) AllocError) (q : S) (es' : List StreamEntry) (agenda : Agenda)
      → entry_place id es ≡ o → AreTended m p es agenda → has_id id agenda.streams ≡ true → has_id id agenda.buffered ≡ true → OpensAt m o id config p es r q es' → AreTended m q es' agenda
  opens_tended None id config p es (Ok x) q es' agenda is h noted counts k =
      subst (λ (y : S). AreTended m y es' agenda) (sym k.0)
      (subst (λ (l : List StreamEntry). AreTended m p l agenda) (sym k.1) (tended_with m p es (new_entry id AwaitOpen (Some config)) agenda h noted counts is refl))
  opens_tended None id config p es (Err x) q es' agenda is h noted counts k =
      subst (λ (y : S). AreTended m y es' agenda) (sym k.0) (subst (λ (l : List StreamEntry). AreTended m p l agenda) (sym k.1) h)
  opens_tended (Some place) id config p es r q es' agenda is h noted counts k =
      tended_on m w p q es' agenda (over_untold k.0.state config p k.0 r q k.1 k.3)
      (subst (λ (l : List StreamEntry). AreTended m p l agenda) (sym k.4)
      (tended_at m p id place es k.0 k.1 agenda h noted is k.2 (over_id m k.0.state config p k.0 r q k.1 k.3) (over_live k.0.state config p k.0 r q k.1 k.3)))

  pub tended_opened : (id : ℕ) (config : ChannelConfig) (p : S) (es : List StreamEntry) (r : Result (Unit {0}) AllocError) (q : S) (es' : List StreamEntry) (agenda : Agenda)
      → AreTended m p es agenda → has_id id agenda.streams ≡ true → has_id id agenda.buffered ≡ true → OpensAt m (entry_place id es) id config p es r q es' → AreTended m q es' agenda
  tended_opened id config p es r q es' agenda h noted counts k = opens_tended (entry_place id es) id config p es r q es' agenda refl h noted counts k
