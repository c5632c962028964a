-- The visit of the entry of one id, as a step of a walk from that id on.
use Rattle.std.proofs.Common.{◌≡◌, suc, ◌≢◌, ℕ, ◌<◌, true≢false, List, [], ◌∷◌, length, get_or, set, Some, None, refl, sym, ◌∙◌, arith}
use Rattle.std.proofs.lemmas.Bool.{eqb-true}
use Rattle.std.proofs.lemmas.List.Quantifiers.{position-Some}
use Rattle.rtc_parts.specs.AssociationMeaning.{AssociationMeaning}
use Rattle.rtc_parts.specs.AssociationLaws.{AssociationLaws}
use Rattle.rtc_sctp_values.specs.StreamIds.{StreamIds, has_id}
use Rattle.rtc_sctp_entries.specs.declared.stream_entry.StreamEntry.{StreamEntry}
use Rattle.rtc_sctp_entries.specs.declared.met.Met.{Met}
use Rattle.rtc_sctp_entries.specs.declared.met.Met.TheVariants.{Nothing, Again, Output, OutOfMemory}
use Rattle.rtc_sctp_entries.specs.Entries.{Ascend, entry_place, is_entry_of}
use Rattle.rtc_sctp_entries.specs.Visits.{Turn, turn, Visits}
use Rattle.rtc_sctp_entries.proofs.OrderLemmas.{none_missing}
use Rattle.rtc_sctp_entries.proofs.StillVisits.{visits_still}
use Rattle.rtc_sctp_entries.proofs.VisitIds.{visits_id}
use Rattle.rtc_sctp.specs.declared.agenda.Agenda.{Agenda}
use Rattle.rtc_sctp.specs.Rest.{OthersRest, AreTended}
use Rattle.rtc_sctp.specs.TourSteps.{StepsBy, VisitsFrom}
use Rattle.rtc_sctp.proofs.CountLemmas.{no_entry, counted_at}
use Rattle.rtc_sctp.proofs.WalkLemmas.{absent, goes, stops}

-- the place of an id is one of the list, and its entry stands there
pub place_is : (id place : ℕ) (es : List StreamEntry) (d : StreamEntry) → entry_place id es ≡ Some place → (place < length es) × ((get_or es place d).id ≡ id)
place_is id place es d is =
    let found = position-Some (is_entry_of id) es place d is in
    (found.0, eqb-true (get_or es place d).id id found.1)

module _ {S : Type 0} (m : AssociationMeaning S) where
  -- there is no entry of the id
  pub steps_absent : (now id : ℕ) (es : List StreamEntry) (a : S) (rs : List ℕ) → Ascend es → entry_place id es ≡ None → StepsBy m now Nothing id es a rs a rs es
  steps_absent now id es a rs order none =
      (refl, refl, λ met b last tail h. absent m now id 0 es a rs met b last tail order (λ i d lt. none_missing id es none i d lt) h)

  others_missing : (a : S) (ids ids' : StreamIds) (id : ℕ) (es : List StreamEntry) → ((i : ℕ) (d : StreamEntry) → i < length es → (get_or es i d).id ≢ id)
      → ((other : ℕ) → other ≢ id → has_id other ids' ≡ has_id other ids) → OthersRest m a ids es → OthersRest m a ids' es
  others_missing a ids ids' id [] apart same h = tt
  others_missing a ids ids' id (e ∷ es) apart same h = (
    λ out. h.0 (sym (same e.id (apart 0 e (omega arith))) ∙ out),
    others_missing a ids ids' id es (λ i d lt. apart (suc i) d (omega (arith, lt))) same h.1,
  )

  pub tended_absent : (a : S) (id : ℕ) (es : List StreamEntry) (agenda agenda' : Agenda) → AreTended m a es agenda → entry_place id es ≡ None
      → ((other : ℕ) → other ≢ id → has_id other agenda'.streams ≡ has_id other agenda.streams)
      → ((other : ℕ) → other ≢ id → has_id other agenda'.buffered ≡ has_id other agenda.buffered) → agenda'.closed ≡ agenda.closed → AreTended m a es agenda'
  tended_absent a id es agenda agenda' h none same apart closed = record {
    ascend = h.ascend;
    rest = others_missing a agenda.streams agenda'.streams id es (λ i d lt. none_missing id es none i d lt) same h.rest;
    unclosed_all = λ e. h.unclosed_all (sym closed ∙ e);
    counted =
        counted_at m a a id agenda.buffered agenda'.buffered es es (λ other ne. omega arith) (λ other has. has) apart
        (λ has out. absurd (true≢false (sym has ∙ no_entry id es none))) h.counted;
  }

module _ {S : Type 0} (m : AssociationMeaning S) (w : AssociationLaws m) where
  -- the entry of the id was visited
  pub steps_visit : (now : ℕ) (met : Met) (id i : ℕ) (es : List StreamEntry) (x : StreamEntry) (a : S) (rs : List ℕ) (t : Turn S) → Ascend es → i < length es
      → x ≡ get_or es i x → x.id ≡ id → Visits m now (turn a x rs) met t → StepsBy m now met id es a rs t.association t.resets (set es i t.entry)
  steps_visit now Nothing id i es x a rs t order lt is own v =
      let still = visits_still m w now (turn a x rs) t v in
      (still.association, still.resets, λ met b last tail h. goes m now id 0 i es x a rs t met b last tail order lt is own (visits_id m now (turn a x rs) Nothing t v ∙ own) v h)
  steps_visit now Again id i es x a rs t order lt is own v = stops m now id 0 i es x a rs t Again order lt is own v (λ e. cc (e))
  steps_visit now (Output o) id i es x a rs t order lt is own v = stops m now id 0 i es x a rs t (Output o) order lt is own v (λ e. cc (e))
  steps_visit now OutOfMemory id i es x a rs t order lt is own v = stops m now id 0 i es x a rs t OutOfMemory order lt is own v (λ e. cc (e))

-- a visit that gave something ended the walk
pub stop_from : {S : Type 0} (m : AssociationMeaning S) (now : ℕ) (met : Met) (id : ℕ) (es : List StreamEntry) (a : S) (rs : List ℕ) (a' : S) (rs' : List ℕ) (es' : List StreamEntry)
    → (met ≡ Nothing → ⊥) → StepsBy m now met id es a rs a' rs' es' → VisitsFrom m now id es a rs met a' rs' es'
stop_from m now Nothing id es a rs a' rs' es' something h = absurd (something refl)
stop_from m now Again id es a rs a' rs' es' something h = h
stop_from m now (Output o) id es a rs a' rs' es' something h = h
stop_from m now OutOfMemory id es a rs a' rs' es' something h = h
