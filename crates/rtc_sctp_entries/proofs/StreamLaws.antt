-- Laws of streams: data comes of an entry that is not marked, and an opening is given up ten seconds after its first refusal.
use Rattle.std.proofs.Common.{◌≡◌, ℕ, Bool, true, false, List, Option, Some, None, refl, sym, ap, subst, ◌∙◌}
use Rattle.rtc_parts.specs.AssociationMeaning.{AssociationMeaning}
use Rattle.rtc_sctp_entries.specs.declared.asked.Asked.{Asked}
use Rattle.rtc_sctp_entries.specs.declared.asked.Asked.TheVariants as did
use Rattle.rtc_sctp_entries.specs.declared.opening.Opening.{Opening}
use Rattle.rtc_sctp_entries.specs.declared.opening.Opening.TheVariants as opened
use Rattle.rtc_sctp_entries.specs.declared.stream_entry_state.StreamEntryState.{StreamEntryState}
use Rattle.rtc_sctp_entries.specs.declared.stream_entry_state.StreamEntryState.TheVariants.{AwaitOpen, AwaitConfig, AwaitDcepAck, Open, Closed}
use Rattle.rtc_sctp_entries.specs.declared.sctp_event.SctpEvent.{SctpEvent}
use Rattle.rtc_sctp_entries.specs.declared.sctp_event.SctpEvent.TheVariants as event
use Rattle.rtc_sctp_entries.specs.declared.met.Met.{Met}
use Rattle.rtc_sctp_entries.specs.declared.met.Met.TheVariants.{Nothing, Again, Output, OutOfMemory}
use Rattle.rtc_sctp_entries.specs.Entries.{is_short_entry, is_out_of_band}
use Rattle.rtc_sctp_entries.specs.Visits.{Turn, is_opening_over, Settles, ForEntry, ClosedBy, Closes, NoRoom, Ended, AnnouncedBy, Announces, NoMessage, Written}
use Rattle.rtc_sctp_entries.specs.Visits.{AnnouncesIf, BegunAs, BegunBy, Begins, RetriedIf, RetriedAt, is_adopted, AdoptedIf, OpenedBy, OpensEntry}
use Rattle.rtc_sctp_entries.specs.Visits.{AttendsIf, is_entry_there, VisitsIn, Visits}
use Rattle.rtc_sctp_entries.specs.StreamLaws.{is_given_up, is_data_met, is_nothing_met}

-- what is met where an entry is opened or closed
module _ {S : Type 0} (m : AssociationMeaning S) (Q : Met → Type 0) (again : Q Again) (starved : Q OutOfMemory) (told_open : (id : ℕ) (label : List ℕ) → Q (Output (event.Open id label))) (told_close : (id : ℕ) (pending : Bool) → Q (Output (event.Close id pending))) where
  met_by : (r met : Met) → met ≡ r → Q r → Q met
  met_by r met e q = subst Q (sym e) q

  closed_by : (a : Asked) (t : Turn S) (met : Met) (t' : Turn S) → ClosedBy m a t met t' → Q met
  closed_by did.Done t met t' h = met_by _ met h.0 (told_close _ _)
  closed_by did.Refused t met t' h = met_by _ met h.0 (told_close _ _)
  closed_by did.OutOfMemory t met t' h = met_by _ met h.0 starved

  closes_meet : (t : Turn S) (met : Met) (t' : Turn S) → Closes m t met t' → Q met
  closes_meet t met t' (NoRoom h) = met_by _ met h.0 starved
  closes_meet t met t' (Ended a q asks h) = closed_by a (record t { association = q }) met t' h

  announced : (a : Asked) (t : Turn S) (met : Met) (t' : Turn S) → AnnouncedBy m a t met t' → Q met
  announced did.Done t met t' h = met_by _ met h.0 again
  announced did.Refused t met t' h = closes_meet t met t' h
  announced did.OutOfMemory t met t' h = met_by _ met h.0 starved

  announces : (t : Turn S) (met : Met) (t' : Turn S) → Announces m t met t' → Q met
  announces t met t' (NoMessage h) = met_by _ met h.0 starved
  announces t met t' (Written a q asks h) = announced a (record t { association = q }) met t' h

  announces_if : (b : Bool) (t : Turn S) (met : Met) (t' : Turn S) → AnnouncesIf m b t met t' → Q met
  announces_if true t met t' h = announces t met t' h
  announces_if false t met t' h = closes_meet t met t' h

  settles : (t : Turn S) (met : Met) (t' : Turn S) → ForEntry Settles t met t' → Q met
  settles t Nothing t' h = absurd h.0
  settles t Again t' h = absurd h.0
  settles t (Output o) t' h = subst (λ (x : SctpEvent). Q (Output x)) (sym h.0.0) (told_open _ _)
  settles t OutOfMemory t' h = starved

  begun_as : (b : Bool) (t : Turn S) (met : Met) (t' : Turn S) → BegunAs m b t met t' → Q met
  begun_as true t met t' h = settles t met t' h
  begun_as false t met t' h = announces_if (is_short_entry t.entry) t met t' h

  begun : (a : Asked) (t : Turn S) (met : Met) (t' : Turn S) → BegunBy m a t met t' → Q met
  begun did.Done t met t' h = begun_as (is_out_of_band t.entry) t met t' h
  begun did.Refused t met t' h = closes_meet t met t' h
  begun did.OutOfMemory t met t' h = met_by _ met h.0 starved

  begins : (t : Turn S) (met : Met) (t' : Turn S) → Begins m t met t' → Q met
  begins t met t' h = begun h.answer (record t { association = h.between }) met t' h.then

  retried_if : (b : Bool) → (b ≡ false → Q Nothing) → (t : Turn S) (met : Met) (t' : Turn S) → RetriedIf m b t met t' → Q met
  retried_if true kept t met t' h = closes_meet t met t' h
  retried_if false kept t met t' h = met_by _ met h.0 (kept refl)

  retried : (now : ℕ) (o : Option ℕ) → (is_given_up now o ≡ false → Q Nothing) → (t : Turn S) (met : Met) (t' : Turn S) → RetriedAt m now o t met t' → Q met
  retried now None kept t met t' h = met_by _ met h.0 (kept refl)
  retried now (Some first) kept t met t' h = retried_if (is_opening_over first now) kept t met t' h

  adopted : (b : Bool) (now : ℕ) (t : Turn S) (met : Met) (t' : Turn S) → (is_given_up now t.entry.refused ≡ false → Q Nothing) → AdoptedIf m b now t met t' → Q met
  adopted true now t met t' kept h = begins t met t' h
  adopted false now t met t' kept h = retried now t.entry.refused kept t met t' h

  opened_by : (a : Opening) (now : ℕ) (t : Turn S) (met : Met) (t' : Turn S) → (is_given_up now t.entry.refused ≡ false → Q Nothing) → OpenedBy m a now t met t' → Q met
  opened_by opened.Done now t met t' kept h = begins t met t' h
  opened_by opened.Exists now t met t' kept h = adopted (is_adopted m t) now t met t' kept h
  opened_by opened.Pending now t met t' kept h = retried now t.entry.refused kept t met t' h
  opened_by opened.Refused now t met t' kept h = closes_meet t met t' h
  opened_by opened.OutOfMemory now t met t' kept h = met_by _ met h.0 starved

  opens_meet : (now : ℕ) (t : Turn S) (met : Met) (t' : Turn S) → (is_given_up now t.entry.refused ≡ false → Q Nothing) → OpensEntry m now t met t' → Q met
  opens_meet now t met t' kept h = opened_by h.answer now (record t { association = h.between }) met t' kept h.then

both_ways : (b : Bool) → b ≡ true → b ≡ false → ⊥
both_ways b t f = let k : true ≡ false = sym t ∙ f in cc

module _ {S : Type 0} (m : AssociationMeaning S) where
  attended : (b there : Bool) (t : Turn S) (met : Met) (t' : Turn S) → t.entry.marked ≡ b → AttendsIf m b there t met t' → is_data_met met ≡ true → t.entry.marked ≡ false
  attended false there t met t' n h d = n
  attended true there t met t' n h d =
      absurd (both_ways _ d (closes_meet m (λ (x : Met). is_data_met x ≡ false) refl refl (λ id label. refl) (λ id pending. refl) t met t' h))

  data_in : (st : StreamEntryState) (now : ℕ) (t : Turn S) (met : Met) (t' : Turn S) → VisitsIn m st now t met t' → is_data_met met ≡ true → t.entry.marked ≡ false
  data_in AwaitOpen now t met t' h d =
      absurd (both_ways _ d (opens_meet m (λ (x : Met). is_data_met x ≡ false) refl refl (λ id label. refl) (λ id pending. refl) now t met t' (λ k. refl) h))
  data_in AwaitConfig now t met t' h d = attended t.entry.marked (is_entry_there m t.association t.entry) t met t' refl h d
  data_in AwaitDcepAck now t met t' h d = attended t.entry.marked (is_entry_there m t.association t.entry) t met t' refl h d
  data_in Open now t met t' h d = attended t.entry.marked (is_entry_there m t.association t.entry) t met t' refl h d
  data_in Closed now t met t' h d = absurd (both_ways _ d (ap is_data_met h.0))

  -- data is answered only of an entry that is not marked
  pub data_unmarked : (now : ℕ) (t : Turn S) (met : Met) (t' : Turn S) → Visits m now t met t' → is_data_met met ≡ true → t.entry.marked ≡ false
  data_unmarked now t met t' h d = data_in t.entry.state now t met t' h d

  -- an opening that was refused first ten seconds ago is not left waiting
  pub opening_given_up : (now : ℕ) (t : Turn S) (met : Met) (t' : Turn S) → t.entry.state ≡ AwaitOpen → is_given_up now t.entry.refused ≡ true
      → Visits m now t met t' → is_nothing_met met ≡ false
  opening_given_up now t met t' c late h =
      opens_meet m (λ (x : Met). is_nothing_met x ≡ false) refl refl (λ id label. refl) (λ id pending. refl) now t met t'
      (λ k. absurd (both_ways _ late k)) (subst (λ (st : StreamEntryState). VisitsIn m st now t met t') c h)
