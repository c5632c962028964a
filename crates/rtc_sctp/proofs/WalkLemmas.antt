-- A walk over the streams of a set is one over all entries.
use Rattle.std.proofs.Common.{◌≡◌, ◌≢◌, inl, inr, ℕ, zero, suc, ◌+◌, ◌<◌, ◌≤◌, Bool, true, false, true≢false, List, [], ◌∷◌, length, get_or, set, nat_lt, refl, sym, ap, subst, ◌∙◌, arith}
use Rattle.std.proofs.lemmas.Bool.{cases_lt, cases_eq}
use Rattle.rtc_parts.specs.declared.assoc_event.AssocEvent.{AssocEvent}
use Rattle.rtc_parts.specs.AssociationMeaning.{AssociationMeaning}
use Rattle.rtc_sctp_values.specs.StreamIds.{StreamIds, has_id}
use Rattle.rtc_sctp_entries.specs.declared.buffered_threshold_config.BufferedThresholdConfig.{BufferedThresholdConfig}
use Rattle.rtc_sctp_entries.specs.declared.buffered_threshold_config.BufferedThresholdConfig.TheVariants.{Unconfigured, Desired, Configured}
use Rattle.rtc_sctp_entries.specs.declared.stream_entry_state.StreamEntryState.{StreamEntryState}
use Rattle.rtc_sctp_entries.specs.declared.stream_entry_state.StreamEntryState.TheVariants.{AwaitOpen, AwaitConfig, AwaitDcepAck, Open, Closed}
use Rattle.rtc_sctp_entries.specs.declared.stream_entry.StreamEntry.{StreamEntry}
use Rattle.rtc_sctp_entries.specs.declared.met.Met.{Met}
use Rattle.rtc_sctp_entries.specs.declared.met.Met.TheVariants.{Nothing}
use Rattle.rtc_sctp_entries.specs.Entries.{AscendFrom, is_desired}
use Rattle.rtc_sctp_entries.proofs.OrderLemmas.{ascend_least}
use Rattle.rtc_sctp_entries.specs.Visits.{Turn, turn, NothingUnread, AttendsBy, AttendsIf, is_entry_there, VisitsIn, Visits}
use Rattle.rtc_sctp.specs.Polls.{VisitsAll}
use Rattle.rtc_sctp.specs.Rest.{IsWoken, Rests, RestsIn, AtRest, OthersRest}
use Rattle.rtc_sctp.specs.TourSteps.{PassesIf, VisitsFrom}
use Rattle.rtc_sctp.proofs.TourLemmas.{tour_go, tour_stop}

never_woken : (id : ℕ) (due : List AssocEvent) → due ≡ [] → IsWoken id due → ⊥
never_woken id due none k = by (subst (λ (l : List AssocEvent). IsWoken id l) none k)
  where
    by : IsWoken id [] → ⊥
    by (inl h) = h
    by (inr h) = h

-- ---- walks from an id on

abbrev Walk : Type 1
Walk = List StreamEntry → Type 0

passed : (b : Bool) (rest : Walk) (whole : Type 0) (e : StreamEntry) (es' : List StreamEntry) → b ≡ true → PassesIf b rest whole e es' → PassesIf true rest whole e es'
passed b rest whole e es' is h = subst (λ (x : Bool). PassesIf x rest whole e es') is h

met_all : (b : Bool) (rest : Walk) (whole : Type 0) (e : StreamEntry) (es' : List StreamEntry) → b ≡ false → PassesIf b rest whole e es' → whole
met_all b rest whole e es' is h = subst (λ (x : Bool). PassesIf x rest whole e es') is h

passes : (b : Bool) (rest : Walk) (whole : Type 0) (e : StreamEntry) (es' : List StreamEntry) → b ≡ true → PassesIf true rest whole e es' → PassesIf b rest whole e es'
passes b rest whole e es' is h = subst (λ (x : Bool). PassesIf x rest whole e es') (sym is) h

meets : (b : Bool) (rest : Walk) (whole : Type 0) (e : StreamEntry) (es' : List StreamEntry) → b ≡ false → whole → PassesIf b rest whole e es'
meets b rest whole e es' is h = subst (λ (x : Bool). PassesIf x rest whole e es') (sym is) h

module _ {S : Type 0} (m : AssociationMeaning S) where
  -- a visit of an entry at rest, where no event is due
  attends_rest : (b : BufferedThresholdConfig) (t : Turn S) → is_desired b ≡ false
      → m.has_unread t.association t.entry.id (m.generation t.association t.entry.id) ≡ false → AttendsBy m b t Nothing t
  attends_rest (Desired n) t none unread = absurd (true≢false none)
  attends_rest Unconfigured t none unread = NothingUnread unread refl refl
  attends_rest (Configured n) t none unread = NothingUnread unread refl refl

  attends_if_rest : (marked there : Bool) (t : Turn S) → marked ≡ false → there ≡ true → AttendsBy m t.entry.threshold t Nothing t → AttendsIf m marked there t Nothing t
  attends_if_rest marked there t e f h = rw (e, f) h

  unread_none : (a : S) (e : StreamEntry) (b : Bool) → m.has_unread a e.id (m.generation a e.id) ≡ b → (b ≡ true → ⊥) → b ≡ false
  unread_none a e true is never = absurd (never refl)
  unread_none a e false is never = refl

  rest_attends : (a : S) (e : StreamEntry) (resets : List ℕ) → m.due a ≡ [] → Rests m a e
      → AttendsIf m e.marked (is_entry_there m a e) (turn a e resets) Nothing (turn a e resets)
  rest_attends a e resets quiet r =
      let there : is_entry_there m a e ≡ true = elim r.there [ inl k ↦ k | inr k ↦ absurd (never_woken e.id (m.due a) quiet k) ] in
      let unread : m.has_unread a e.id (m.generation a e.id) ≡ false =
      unread_none a e (m.has_unread a e.id (m.generation a e.id)) refl (λ k. never_woken e.id (m.due a) quiet (r.read k)) in
      attends_if_rest e.marked (is_entry_there m a e) (turn a e resets) r.unmarked there (attends_rest e.threshold (turn a e resets) r.handed unread)

  rest_visits_in : (st : StreamEntryState) (now : ℕ) (a : S) (e : StreamEntry) (resets : List ℕ) → m.due a ≡ [] → RestsIn m st a e
      → VisitsIn m st now (turn a e resets) Nothing (turn a e resets)
  rest_visits_in AwaitOpen now a e resets quiet r = absurd r
  rest_visits_in AwaitConfig now a e resets quiet r = rest_attends a e resets quiet r
  rest_visits_in AwaitDcepAck now a e resets quiet r = rest_attends a e resets quiet r
  rest_visits_in Open now a e resets quiet r = rest_attends a e resets quiet r
  rest_visits_in Closed now a e resets quiet r = (refl, refl)

  pub rest_visits : (now : ℕ) (a : S) (e : StreamEntry) (resets : List ℕ) → m.due a ≡ [] → AtRest m a e → Visits m now (turn a e resets) Nothing (turn a e resets)
  rest_visits now a e resets quiet r = rest_visits_in e.state now a e resets quiet r

  -- entries that all stand behind a number are all walked
  pub from_all : (now from low : ℕ) (es : List StreamEntry) (a : S) (rs : List ℕ) (met : Met) (b : S) (last : List ℕ) (tail : List StreamEntry)
      → AscendFrom low es → from ≤ low → VisitsFrom m now from es a rs met b last tail → VisitsAll m now es a rs met b last tail
  from_all now from low [] a rs met b last tail order le h = h
  from_all now from low (e ∷ es) a rs met b last tail order le h =
      let least : low ≤ e.id = order.0 in
      let test : nat_lt e.id from ≡ false = grind (arith, le, least) in
      met_all (nat_lt e.id from) (λ xs. VisitsFrom m now from es a rs met b last xs) (VisitsAll m now (e ∷ es) a rs met b last tail) e tail test h

  pub all_from : (now from low : ℕ) (es : List StreamEntry) (a : S) (rs : List ℕ) (met : Met) (b : S) (last : List ℕ) (tail : List StreamEntry)
      → AscendFrom low es → from ≤ low → VisitsAll m now es a rs met b last tail → VisitsFrom m now from es a rs met b last tail
  all_from now from low [] a rs met b last tail order le h = h
  all_from now from low (e ∷ es) a rs met b last tail order le h =
      let least : low ≤ e.id = order.0 in
      let test : nat_lt e.id from ≡ false = grind (arith, le, least) in
      meets (nat_lt e.id from) (λ xs. VisitsFrom m now from es a rs met b last xs) (VisitsAll m now (e ∷ es) a rs met b last tail) e tail test h

  -- entries at rest may be left out
  pub skips : (now from id low : ℕ) (es : List StreamEntry) (ids : StreamIds) (a : S) (rs : List ℕ) (met : Met) (b : S) (last : List ℕ) (tail : List StreamEntry)
      → AscendFrom low es → OthersRest m a ids es → m.due a ≡ [] → from ≤ id → ((other : ℕ) → from ≤ other → other < id → has_id other ids ≡ false)
      → VisitsFrom m now id es a rs met b last tail → VisitsFrom m now from es a rs met b last tail
  skips now from id low [] ids a rs met b last tail order rest quiet le out h = h
  skips now from id low (e ∷ es) ids a rs met b last tail order rest quiet le out h =
      elim (cases_lt e.id from) [
        | inl below ↦
            let near : nat_lt e.id from ≡ true = grind (arith, below) in
            let far : nat_lt e.id id ≡ true = grind (arith, below, le) in
            let k = passed (nat_lt e.id id) (λ xs. VisitsFrom m now id es a rs met b last xs) (VisitsAll m now (e ∷ es) a rs met b last tail) e tail far h in
            passes (nat_lt e.id from) (λ xs. VisitsFrom m now from es a rs met b last xs) (VisitsAll m now (e ∷ es) a rs met b last tail) e tail near
            (k.0, skips now from id (e.id + 1) es ids a rs met b last k.0 order.1 rest.1 quiet le out k.1, k.2)
        | inr reached ↦
            let here : nat_lt e.id from ≡ false = grind (arith, reached) in
            meets (nat_lt e.id from) (λ xs. VisitsFrom m now from es a rs met b last xs) (VisitsAll m now (e ∷ es) a rs met b last tail) e tail here
            (elim (cases_lt e.id id) [
              | inl before ↦
                  let far : nat_lt e.id id ≡ true = grind (arith, before) in
                  let k = passed (nat_lt e.id id) (λ xs. VisitsFrom m now id es a rs met b last xs) (VisitsAll m now (e ∷ es) a rs met b last tail) e tail far h in
                  let visit = rest_visits now a e rs quiet (rest.0 (out e.id (omega (arith, reached)) before)) in
                  let more = skips now from id (e.id + 1) es ids a rs met b last k.0 order.1 rest.1 quiet le out k.1 in
                  subst (λ (l : List StreamEntry). VisitsAll m now (e ∷ es) a rs met b last l) (sym k.2)
                  (tour_go m now e es a rs (turn a e rs) met b last k.0 visit (from_all now from (e.id + 1) es a rs met b last k.0 order.1 (omega (arith, reached)) more))
              | inr past ↦
                  let no : nat_lt e.id id ≡ false = grind (arith, past) in
                  met_all (nat_lt e.id id) (λ xs. VisitsFrom m now id es a rs met b last xs) (VisitsAll m now (e ∷ es) a rs met b last tail) e tail no h
            ])
      ]

  -- where all that is left is at rest, the walk meets nothing
  pub ends : (now from low : ℕ) (es : List StreamEntry) (ids : StreamIds) (a : S) (rs : List ℕ) → AscendFrom low es → OthersRest m a ids es → m.due a ≡ []
      → ((other : ℕ) → from ≤ other → has_id other ids ≡ false) → VisitsFrom m now from es a rs Nothing a rs es
  ends now from low [] ids a rs order rest quiet out = (refl, refl, refl, refl)
  ends now from low (e ∷ es) ids a rs order rest quiet out =
      let more = ends now from (e.id + 1) es ids a rs order.1 rest.1 quiet out in
      elim (cases_lt e.id from) [
        | inl below ↦
            let near : nat_lt e.id from ≡ true = grind (arith, below) in
            passes (nat_lt e.id from) (λ xs. VisitsFrom m now from es a rs Nothing a rs xs) (VisitsAll m now (e ∷ es) a rs Nothing a rs (e ∷ es)) e (e ∷ es) near (es, more, refl)
        | inr reached ↦
            let here : nat_lt e.id from ≡ false = grind (arith, reached) in
            let visit = rest_visits now a e rs quiet (rest.0 (out e.id (omega (arith, reached)))) in
            meets (nat_lt e.id from) (λ xs. VisitsFrom m now from es a rs Nothing a rs xs) (VisitsAll m now (e ∷ es) a rs Nothing a rs (e ∷ es)) e (e ∷ es) here
            (tour_go m now e es a rs (turn a e rs) Nothing a rs es visit (from_all now from (e.id + 1) es a rs Nothing a rs es order.1 (omega (arith, reached)) more))
      ]

  -- ---- the visit of one id

  -- a walk behind an id that no entry has
  pub absent : (now id low : ℕ) (es : List StreamEntry) (a : S) (rs : List ℕ) (met : Met) (b : S) (last : List ℕ) (tail : List StreamEntry) → AscendFrom low es
      → ((i : ℕ) (d : StreamEntry) → i < length es → (get_or es i d).id ≢ id)
      → VisitsFrom m now (id + 1) es a rs met b last tail → VisitsFrom m now id es a rs met b last tail
  absent now id low [] a rs met b last tail order other h = h
  absent now id low (e ∷ es) a rs met b last tail order other h =
      let apart : e.id ≢ id = other 0 e (omega arith) in
      elim (cases_lt e.id id) [
        | inl below ↦
            let near : nat_lt e.id id ≡ true = grind (arith, below) in
            let far : nat_lt e.id (id + 1) ≡ true = grind (arith, below) in
            let k = passed (nat_lt e.id (id + 1)) (λ xs. VisitsFrom m now (id + 1) es a rs met b last xs) (VisitsAll m now (e ∷ es) a rs met b last tail) e tail far h in
            passes (nat_lt e.id id) (λ xs. VisitsFrom m now id es a rs met b last xs) (VisitsAll m now (e ∷ es) a rs met b last tail) e tail near
            (k.0, absent now id (e.id + 1) es a rs met b last k.0 order.1 (λ i d lt. other (suc i) d (omega (arith, lt))) k.1, k.2)
        | inr reached ↦
            let here : nat_lt e.id id ≡ false = grind (arith, reached) in
            let above : id < e.id = elim (cases_eq e.id id) [ inl same ↦ absurd (apart same) | inr ne ↦ omega (arith, reached, ne) ] in
            let no : nat_lt e.id (id + 1) ≡ false = grind (arith, above) in
            meets (nat_lt e.id id) (λ xs. VisitsFrom m now id es a rs met b last xs) (VisitsAll m now (e ∷ es) a rs met b last tail) e tail here
            (met_all (nat_lt e.id (id + 1)) (λ xs. VisitsFrom m now (id + 1) es a rs met b last xs) (VisitsAll m now (e ∷ es) a rs met b last tail) e tail no h)
      ]

  -- the entry of an id was visited with nothing met, and the walk goes on behind it
  pub goes : (now id low i : ℕ) (es : List StreamEntry) (x : StreamEntry) (a : S) (rs : List ℕ) (t : Turn S) (met : Met) (b : S) (last : List ℕ) (tail : List StreamEntry)
      → AscendFrom low es → i < length es → x ≡ get_or es i x → x.id ≡ id → t.entry.id ≡ id → Visits m now (turn a x rs) Nothing t
      → VisitsFrom m now (id + 1) (set es i t.entry) t.association t.resets met b last tail → VisitsFrom m now id es a rs met b last tail
  goes now id low i [] x a rs t met b last tail order lt is own same visit h = absurd (omega (arith, lt))
  goes now id low zero (e ∷ es) x a rs t met b last tail order lt is own same visit h =
      let at : e.id ≡ id = ap (λ (y : StreamEntry). y.id) (sym is) ∙ own in
      let here : nat_lt e.id id ≡ false = grind (arith, at) in
      let far : nat_lt t.entry.id (id + 1) ≡ true = grind (arith, same) in
      let k = passed (nat_lt t.entry.id (id + 1)) (λ xs. VisitsFrom m now (id + 1) es t.association t.resets met b last xs) (VisitsAll m now (t.entry ∷ es) t.association t.resets met b last tail) t.entry tail far h in
      let visit_e : Visits m now (turn a e rs) Nothing t = subst (λ (y : StreamEntry). Visits m now (turn a y rs) Nothing t) is visit in
      meets (nat_lt e.id id) (λ xs. VisitsFrom m now id es a rs met b last xs) (VisitsAll m now (e ∷ es) a rs met b last tail) e tail here
      (subst (λ (l : List StreamEntry). VisitsAll m now (e ∷ es) a rs met b last l) (sym k.2)
      (tour_go m now e es a rs t met b last k.0 visit_e
      (from_all now (id + 1) (e.id + 1) es t.association t.resets met b last k.0 order.1 (omega (arith, at)) k.1)))
  goes now id low (suc i) (e ∷ es) x a rs t met b last tail order lt is own same visit h =
      let below : e.id < id = omega (arith, ascend_least (e.id + 1) es i x order.1 (omega (arith, lt)), ap (λ (y : StreamEntry). y.id) is, own) in
      let near : nat_lt e.id id ≡ true = grind (arith, below) in
      let far : nat_lt e.id (id + 1) ≡ true = grind (arith, below) in
      let k = passed (nat_lt e.id (id + 1)) (λ xs. VisitsFrom m now (id + 1) (set es i t.entry) t.association t.resets met b last xs) (VisitsAll m now (e ∷ set es i t.entry) t.association t.resets met b last tail) e tail far h in
      passes (nat_lt e.id id) (λ xs. VisitsFrom m now id es a rs met b last xs) (VisitsAll m now (e ∷ es) a rs met b last tail) e tail near
      (k.0, goes now id (e.id + 1) i es x a rs t met b last k.0 order.1 (omega (arith, lt)) is own same visit k.1, k.2)

  -- the entry of an id was visited and gave something, which ends the walk
  pub stops : (now id low i : ℕ) (es : List StreamEntry) (x : StreamEntry) (a : S) (rs : List ℕ) (t : Turn S) (met : Met) → AscendFrom low es → i < length es
      → x ≡ get_or es i x → x.id ≡ id → Visits m now (turn a x rs) met t → (met ≡ Nothing → ⊥)
      → VisitsFrom m now id es a rs met t.association t.resets (set es i t.entry)
  stops now id low i [] x a rs t met order lt is own visit something = absurd (omega (arith, lt))
  stops now id low zero (e ∷ es) x a rs t met order lt is own visit something =
      let at : e.id ≡ id = ap (λ (y : StreamEntry). y.id) (sym is) ∙ own in
      let here : nat_lt e.id id ≡ false = grind (arith, at) in
      let visit_e : Visits m now (turn a e rs) met t = subst (λ (y : StreamEntry). Visits m now (turn a y rs) met t) is visit in
      meets (nat_lt e.id id) (λ xs. VisitsFrom m now id es a rs met t.association t.resets xs) (VisitsAll m now (e ∷ es) a rs met t.association t.resets (t.entry ∷ es)) e (t.entry ∷ es) here
      (tour_stop m now e es a rs t met visit_e something)
  stops now id low (suc i) (e ∷ es) x a rs t met order lt is own visit something =
      let below : e.id < id = omega (arith, ascend_least (e.id + 1) es i x order.1 (omega (arith, lt)), ap (λ (y : StreamEntry). y.id) is, own) in
      let near : nat_lt e.id id ≡ true = grind (arith, below) in
      passes (nat_lt e.id id) (λ xs. VisitsFrom m now id es a rs met t.association t.resets xs) (VisitsAll m now (e ∷ es) a rs met t.association t.resets (e ∷ set es i t.entry)) e (e ∷ set es i t.entry) near
      (set es i t.entry, stops now id (e.id + 1) i es x a rs t met order.1 (omega (arith, lt)) is own visit something, refl)
