-- Entries of which those left out are at rest stay so.
use Rattle.std.proofs.Common.{◌≡◌, ◌≢◌, inl, ℕ, zero, suc, ◌+◌, ◌<◌, ◌≤◌, ◌||◌, not, Bool, true, false, true≢false, List, [], ◌∷◌, length, get_or, set, Some, refl, sym, ap, subst, ◌∙◌, arith}
use Rattle.std.proofs.lemmas.List.{get_or_default}
use Rattle.std.proofs.lemmas.Option.{slice_get-get_or}
use Rattle.rtc_parts.specs.AssociationMeaning.{AssociationMeaning}
use Rattle.rtc_parts.specs.AssociationLaws.{AssociationLaws}
use Rattle.rtc_sctp_values.specs.StreamIds.{StreamIds, has_id}
use Rattle.rtc_sctp_entries.specs.declared.stream_entry_state.StreamEntryState.{StreamEntryState}
use Rattle.rtc_sctp_entries.specs.declared.stream_entry_state.StreamEntryState.TheVariants.{AwaitOpen, AwaitConfig, AwaitDcepAck, Open, Closed}
use Rattle.rtc_sctp_entries.specs.declared.stream_entry.StreamEntry.{StreamEntry}
use Rattle.rtc_sctp_entries.specs.declared.met.Met.{Met}
use Rattle.rtc_sctp_entries.specs.declared.met.Met.TheVariants.{Nothing, Again, Output, OutOfMemory}
use Rattle.rtc_sctp_entries.specs.Entries.{AscendFrom, is_closed_state, unclosed}
use Rattle.rtc_sctp_entries.specs.StreamLaws.{is_nothing_met}
use Rattle.rtc_sctp_entries.specs.Visits.{Turn, turn, VisitsIn, Visits}
use Rattle.rtc_sctp_entries.proofs.OrderLemmas.{ascend_least, ascend_set}
use Rattle.rtc_sctp_entries.proofs.StillVisits.{Idle, attends_still, visits_still}
use Rattle.rtc_sctp_entries.proofs.UntoldVisits.{Untold, UntoldBut, but_all, visits_untold, untold_falls, others_fall}
use Rattle.rtc_sctp_entries.proofs.VisitIds.{visits_id}
use Rattle.rtc_sctp.specs.declared.agenda.Agenda.{Agenda}
use Rattle.rtc_sctp.specs.Rest.{AreUnclosed, Rests, RestsIn, AtRest, OthersRest, AreTended, is_done, may_buffer}
use Rattle.rtc_sctp.proofs.CountLemmas.{has_entry_set, counted_at, none_counted}
use Rattle.rtc_sctp.proofs.RestLemmas.{others_on}

-- ---- closed entries

pub unclosed_same : (es : List StreamEntry) → AreUnclosed es → unclosed es ≡ es
unclosed_same [] h = refl
unclosed_same (e ∷ es) h = rw (h.0) (ap (λ l. e ∷ l) (unclosed_same es h.1))

pub unclosed_set : (es : List StreamEntry) (i : ℕ) (e' : StreamEntry) → is_closed_state e'.state ≡ false → AreUnclosed es → AreUnclosed (set es i e')
unclosed_set [] i e' here h = tt
unclosed_set (e ∷ es) zero e' here h = (here, h.1)
unclosed_set (e ∷ es) (suc i) e' here h = (h.0, unclosed_set es i e' here h.1)

neither : (a b : Bool) → (a || b) ≡ false → (a ≡ false) × (b ≡ false)
neither true b h = absurd (true≢false h)
neither false b h = (refl, h)

-- ---- one entry in place of another

module _ {S : Type 0} (m : AssociationMeaning S) where
  -- entries behind an id that alone changed
  others_apart : (a : S) (ids ids' : StreamIds) (es : List StreamEntry) (low id : ℕ) → AscendFrom low es → id < low
      → ((other : ℕ) → other ≢ id → has_id other ids' ≡ has_id other ids) → OthersRest m a ids es → OthersRest m a ids' es
  others_apart a ids ids' [] low id order behind same h = tt
  others_apart a ids ids' (e ∷ es) low id order behind same h =
      let least : low ≤ e.id = order.0 in
      let ne : e.id ≢ id = λ k. omega (arith, least, behind, k) in
      (λ out. h.0 (sym (same e.id ne) ∙ out), others_apart a ids ids' es (e.id + 1) id order.1 (omega (arith, least, behind)) same h.1)

  -- an entry in place of the one of its id, which alone was put in or taken out
  pub others_left : (a : S) (ids ids' : StreamIds) (es : List StreamEntry) (i low : ℕ) (e' : StreamEntry) → AscendFrom low es → i < length es
      → (get_or es i e').id ≡ e'.id → ((other : ℕ) → other ≢ e'.id → has_id other ids' ≡ has_id other ids)
      → (has_id e'.id ids' ≡ false → AtRest m a e') → OthersRest m a ids es → OthersRest m a ids' (set es i e')
  others_left a ids ids' [] i low e' order lt own same rest h = tt
  others_left a ids ids' (e ∷ es) zero low e' order lt own same rest h =
      (rest, others_apart a ids ids' es (e.id + 1) e'.id order.1 (omega (arith, own)) same h.1)
  others_left a ids ids' (e ∷ es) (suc i) low e' order lt own same rest h =
      let behind : e.id + 1 ≤ (get_or es i e').id = ascend_least (e.id + 1) es i e' order.1 (omega (arith, lt)) in
      let ne : e.id ≢ e'.id = λ k. omega (arith, behind, own, k) in
      (λ out. h.0 (sym (same e.id ne) ∙ out), others_left a ids ids' es i (e.id + 1) e' order.1 (omega (arith, lt)) own same rest h.1)

  idle_rests : (a : S) (e : StreamEntry) (rs : List ℕ) → Idle m (turn a e rs) → Rests m a e
  idle_rests a e rs h = record {
    unmarked = h.unmarked;
    handed = h.handed;
    there = inl h.there;
    read = λ unread. absurd (true≢false (sym unread ∙ h.unread));
  }

module _ {S : Type 0} (m : AssociationMeaning S) (w : AssociationLaws m) where
  -- acts that tell nothing
  pub tended_on : (a b : S) (es : List StreamEntry) (agenda : Agenda) → Untold m a b → AreTended m a es agenda → AreTended m b es agenda
  tended_on a b es agenda u h = record {
    ascend = h.ascend;
    rest = others_on m w 0 a b agenda.streams es (but_all m 0 a b u) h.rest;
    unclosed_all = h.unclosed_all;
    counted = λ id has out. omega (arith, untold_falls m w a b id u, h.counted id has out);
  }

  -- a write to a stream that is noted
  pub tended_wrote : (own : ℕ) (a b : S) (es : List StreamEntry) (agenda agenda' : Agenda) → UntoldBut m own a b → agenda'.streams ≡ agenda.streams
      → agenda'.closed ≡ agenda.closed → has_id own agenda'.buffered ≡ true
      → ((other : ℕ) → other ≢ own → has_id other agenda'.buffered ≡ has_id other agenda.buffered) → AreTended m a es agenda → AreTended m b es agenda'
  tended_wrote own a b es agenda agenda' u streams closed here apart h = record {
    ascend = h.ascend;
    rest = subst (λ (ids : StreamIds). OthersRest m b ids es) (sym streams) (others_on m w own a b agenda.streams es u h.rest);
    unclosed_all = λ none. h.unclosed_all (sym closed ∙ none);
    counted =
        counted_at m a b own agenda.buffered agenda'.buffered es es (λ other ne. others_fall m w own a b other u ne) (λ other has. has) apart
        (λ has out. absurd (true≢false (sym here ∙ out))) h.counted;
  }

  -- a visit of this state that met this left the entry with nothing to do
  done_closed : (st : StreamEntryState) (met : Met) (a : S) (e : StreamEntry) → is_nothing_met met ≡ false → is_done st met ≡ true → RestsIn m st a e
  done_closed AwaitOpen met a e n d = absurd (true≢false (sym d))
  done_closed AwaitConfig met a e n d = absurd (true≢false (sym d ∙ n))
  done_closed AwaitDcepAck met a e n d = absurd (true≢false (sym d ∙ n))
  done_closed Open met a e n d = absurd (true≢false (sym d ∙ n))
  done_closed Closed met a e n d = tt

  done_nothing : (st : StreamEntryState) (now : ℕ) (a : S) (x : StreamEntry) (rs : List ℕ) (t : Turn S) → x.state ≡ st
      → VisitsIn m st now (turn a x rs) Nothing t → t.entry.state ≡ x.state → is_done t.entry.state Nothing ≡ true → AtRest m t.association t.entry
  done_nothing AwaitOpen now a x rs t is v same d =
      absurd (true≢false (sym d ∙ ap (λ (st : StreamEntryState). is_done st Nothing) (same ∙ is)))
  done_nothing AwaitConfig now a x rs t is v same d =
      let k = attends_still m w (turn a x rs) t v in
      subst (λ (y : Turn S). AtRest m y.association y.entry) (sym k.0) (subst (λ (st : StreamEntryState). RestsIn m st a x) (sym is) (idle_rests m a x rs k.1))
  done_nothing AwaitDcepAck now a x rs t is v same d =
      let k = attends_still m w (turn a x rs) t v in
      subst (λ (y : Turn S). AtRest m y.association y.entry) (sym k.0) (subst (λ (st : StreamEntryState). RestsIn m st a x) (sym is) (idle_rests m a x rs k.1))
  done_nothing Open now a x rs t is v same d =
      let k = attends_still m w (turn a x rs) t v in
      subst (λ (y : Turn S). AtRest m y.association y.entry) (sym k.0) (subst (λ (st : StreamEntryState). RestsIn m st a x) (sym is) (idle_rests m a x rs k.1))
  done_nothing Closed now a x rs t is v same d =
      subst (λ (st : StreamEntryState). RestsIn m st t.association t.entry) (sym (same ∙ is)) tt

  pub done_rests : (met : Met) (now : ℕ) (a : S) (x : StreamEntry) (rs : List ℕ) (t : Turn S) → Visits m now (turn a x rs) met t
      → is_done t.entry.state met ≡ true → AtRest m t.association t.entry
  done_rests Nothing now a x rs t v d = done_nothing x.state now a x rs t refl v (visits_still m w now (turn a x rs) t v).state d
  done_rests Again now a x rs t v d = done_closed t.entry.state Again t.association t.entry refl d
  done_rests (Output o) now a x rs t v d = done_closed t.entry.state (Output o) t.association t.entry refl d
  done_rests OutOfMemory now a x rs t v d = done_closed t.entry.state OutOfMemory t.association t.entry refl d

  not_true : (b : Bool) → not b ≡ false → b ≡ true
  not_true true h = refl
  not_true false h = absurd (true≢false h)

  -- a visit, and what it leaves to do
  pub tended_visit : (now : ℕ) (met : Met) (id : ℕ) (a : S) (rs : List ℕ) (es : List StreamEntry) (i : ℕ) (x : StreamEntry) (t : Turn S) (agenda agenda' : Agenda)
      → AreTended m a es agenda → i < length es → x ≡ get_or es i x → x.id ≡ id → Visits m now (turn a x rs) met t
      → has_id id agenda'.streams ≡ not (is_done t.entry.state met) → ((other : ℕ) → other ≢ id → has_id other agenda'.streams ≡ has_id other agenda.streams)
      → has_id id agenda'.buffered ≡ may_buffer m t.association id → ((other : ℕ) → other ≢ id → has_id other agenda'.buffered ≡ has_id other agenda.buffered)
      → agenda'.closed ≡ (agenda.closed || is_closed_state t.entry.state) → AreTended m t.association (set es i t.entry) agenda'
  tended_visit now met id a rs es i x t agenda agenda' h lt is own v here others counts apart closed =
      let same : t.entry.id ≡ x.id = visits_id m now (turn a x rs) met t v in
      let at : t.entry.id ≡ id = same ∙ own in
      let u = visits_untold m w now (turn a x rs) met t v in
      let moved = others_on m w x.id a t.association agenda.streams es u h.rest in
      let place : (get_or es i t.entry).id ≡ t.entry.id = ap (λ (y : StreamEntry). y.id) (get_or_default es i t.entry x lt ∙ sym is) ∙ sym same in
      record {
        ascend = ascend_set 0 es i x t.entry (slice_get-get_or es i x lt ∙ ap (λ (y : StreamEntry). Some y) (sym is)) same h.ascend;
        rest =
            others_left m t.association agenda.streams agenda'.streams es i 0 t.entry h.ascend lt
            place
            (λ other ne. others other (λ k. ne (k ∙ sym at)))
            (λ out. done_rests met now a x rs t v (not_true (is_done t.entry.state met) (sym here ∙ ap (λ n. has_id n agenda'.streams) (sym at) ∙ out)))
            moved;
        unclosed_all = λ none.
            let two = neither agenda.closed (is_closed_state t.entry.state) (sym closed ∙ none) in
            unclosed_set es i t.entry two.1 (h.unclosed_all two.0);
        counted =
            counted_at m a t.association id agenda.buffered agenda'.buffered es (set es i t.entry)
            (λ other ne. others_fall m w x.id a t.association other u (λ k. ne (k ∙ own))) (λ other has. sym (has_entry_set other es i t.entry place) ∙ has) apart
            (λ has out. none_counted m w t.association id (sym counts ∙ out)) h.counted;
      }
