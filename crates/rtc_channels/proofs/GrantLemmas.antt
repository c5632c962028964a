-- What a map keeps of streams, and the list of their holds.
use Rattle.std.proofs.Common.{◌≡◌, ◌≢◌, ◌+◌, ◌-◌, ◌<◌, ◌≤◌, ◌==◌, ℕ, suc, zero, Bool, cond, List, [], ◌∷◌, map, filter, length, refl, ap, sym, ◌∙◌, inl, inr, arith, Option, Some, None}
use Rattle.std.specs.Prelude.{is_some}
use Rattle.std.specs.Option.{option_map}
use Rattle.std.specs.BTreeMap.{BTreeMap, get, keys, IsOrdered}
use Rattle.std.specs.Map.{lookup}
use Rattle.std.specs.Ordering.{nat_cmp, eq_by_cmp}
use Rattle.std.specs.Cmp.{eq_by_cmp_equiv, nat_cmp_total}
use Rattle.std.proofs.lemmas.Bool.{cases_eq, lt-ltb, le-ltb, eq-eqb, ne_eqb}
use Rattle.std.proofs.lemmas.Map.Made.{lookup-map_values}
use Rattle.std.proofs.lemmas.Map.Entries.{option_filter, lookup-filter-values}
use Rattle.std.proofs.lemmas.Map.Keys.{IsDistinct-from_sorted}
use Rattle.rtc_channels.specs.declared.grants.Grant.{Grant}
use Rattle.rtc_channels.specs.Granted.{grant_owner, grant_holds, owner_at, holds_at, unheld_entry, is_owned_entry, repeated, holds_from, holds_of}
use Rattle.rtc_channels.specs.Holds.{with_hold, without_hold, hold_count}

-- ---- every hold goes

abbrev owned : Grant → Bool
owned grant = is_some grant.owner

abbrev unheld : Grant → Grant
unheld grant = record grant { holds = 0 }

kept_owner : (owner : Option ℕ) → grant_owner (option_filter owned (Some (record { owner = owner; holds = 0 }))) ≡ owner
kept_owner None = refl
kept_owner (Some id) = refl

kept_holds : (owner : Option ℕ) → grant_holds (option_filter owned (Some (record { owner = owner; holds = 0 }))) ≡ 0
kept_holds None = refl
kept_holds (Some id) = refl

found_owner : (found : Option Grant) → grant_owner (option_filter owned (option_map unheld found)) ≡ grant_owner found
found_owner None = refl
found_owner (Some grant) = kept_owner grant.owner

found_holds : (found : Option Grant) → grant_holds (option_filter owned (option_map unheld found)) ≡ 0
found_holds None = refl
found_holds (Some grant) = kept_holds grant.owner

unheld_found : (old between new : BTreeMap ℕ Grant) (q : ℕ) → between.entries ≡ map unheld_entry old.entries → IsOrdered nat_cmp between
    → new.entries ≡ filter is_owned_entry between.entries → get nat_cmp new q ≡ option_filter owned (option_map unheld (get nat_cmp old q))
unheld_found old between new q cleared ordered kept =
    ap (λ (es : List (ℕ × Grant)). lookup (eq_by_cmp nat_cmp q) es) kept
    ∙ (lookup-filter-values (eq_by_cmp_equiv nat_cmp_total) owned q between.entries (IsDistinct-from_sorted nat_cmp (keys between) ordered)
    ∙ ap (option_filter owned) (ap (λ (es : List (ℕ × Grant)). lookup (eq_by_cmp nat_cmp q) es) cleared ∙ lookup-map_values unheld (eq_by_cmp nat_cmp q) old.entries))

pub unheld_owner : (old between new : BTreeMap ℕ Grant) (q : ℕ) → between.entries ≡ map unheld_entry old.entries → IsOrdered nat_cmp between
    → new.entries ≡ filter is_owned_entry between.entries → owner_at new q ≡ owner_at old q
unheld_owner old between new q cleared ordered kept = ap grant_owner (unheld_found old between new q cleared ordered kept) ∙ found_owner (get nat_cmp old q)

pub unheld_holds : (old between new : BTreeMap ℕ Grant) (q : ℕ) → between.entries ≡ map unheld_entry old.entries → IsOrdered nat_cmp between
    → new.entries ≡ filter is_owned_entry between.entries → holds_at new q ≡ 0
unheld_holds old between new q cleared ordered kept = ap grant_holds (unheld_found old between new q cleared ordered kept) ∙ found_holds (get nat_cmp old q)

-- ---- the list of holds

-- numbers that are repeated in front of a list
front_more : (count stream own : ℕ) (rest : List ℕ) → own < stream → with_hold stream (repeated count own rest) ≡ repeated count own (with_hold stream rest)
front_more zero stream own rest less = refl
front_more (suc count) stream own rest less = rw (lt-ltb own stream less) (ap (λ (list : List ℕ). own ∷ list) (front_more count stream own rest less))

front_fewer : (count stream own : ℕ) (rest : List ℕ) → own ≢ stream → without_hold stream (repeated count own rest) ≡ repeated count own (without_hold stream rest)
front_fewer zero stream own rest differs = refl
front_fewer (suc count) stream own rest differs = rw (ne_eqb own stream differs) (ap (λ (list : List ℕ). own ∷ list) (front_fewer count stream own rest differs))

front_count : (count stream own : ℕ) (rest : List ℕ) → own ≢ stream → hold_count stream (repeated count own rest) ≡ hold_count stream rest
front_count zero stream own rest differs = refl
front_count (suc count) stream own rest differs = rw (ne_eqb own stream differs) (front_count count stream own rest differs)

own_count : (count stream : ℕ) (rest : List ℕ) → hold_count stream rest ≡ 0 → hold_count stream (repeated count stream rest) ≡ count
own_count zero stream rest none = none
own_count (suc count) stream rest none = rw (eq-eqb stream stream refl) (omega (arith, own_count count stream rest none))

own_more : (count stream : ℕ) (rest : List ℕ) → with_hold stream rest ≡ stream ∷ rest → with_hold stream (repeated count stream rest) ≡ stream ∷ repeated count stream rest
own_more zero stream rest first = first
own_more (suc count) stream rest first = rw (le-ltb stream stream (omega arith)) refl

own_fewer : (count stream : ℕ) (rest : List ℕ) → without_hold stream rest ≡ rest → without_hold stream (repeated count stream rest) ≡ repeated (count - 1) stream rest
own_fewer zero stream rest none = none
own_fewer (suc count) stream rest none = let one : suc count - 1 ≡ count = omega arith in rw (eq-eqb stream stream refl, one) refl

-- a stream below all others
first_more : (count stream own : ℕ) (rest : List ℕ) → stream < own → with_hold stream rest ≡ stream ∷ rest → with_hold stream (repeated count own rest) ≡ stream ∷ repeated count own rest
first_more zero stream own rest less first = first
first_more (suc count) stream own rest less first = rw (le-ltb own stream (omega arith)) refl

below_more : (holds : ℕ → ℕ) (stream first count : ℕ) → stream < first → with_hold stream (holds_from holds first count) ≡ stream ∷ holds_from holds first count
below_more holds stream first zero less = refl
below_more holds stream first (suc count) less = first_more (holds first) stream first (holds_from holds (first + 1) count) less (below_more holds stream (first + 1) count (omega arith))

below_fewer : (holds : ℕ → ℕ) (stream first count : ℕ) → stream < first → without_hold stream (holds_from holds first count) ≡ holds_from holds first count
below_fewer holds stream first zero less = refl
below_fewer holds stream first (suc count) less =
    front_fewer (holds first) stream first (holds_from holds (first + 1) count) (λ e. omega arith)
    ∙ ap (repeated (holds first) first) (below_fewer holds stream (first + 1) count (omega arith))

below_count : (holds : ℕ → ℕ) (stream first count : ℕ) → stream < first → hold_count stream (holds_from holds first count) ≡ 0
below_count holds stream first zero less = refl
below_count holds stream first (suc count) less =
    front_count (holds first) stream first (holds_from holds (first + 1) count) (λ e. omega arith) ∙ below_count holds stream (first + 1) count (omega arith)

-- a list of holds by how often each stream is held
same_holds : (holds holds' : ℕ → ℕ) (first count : ℕ) → ((q : ℕ) → first ≤ q → holds' q ≡ holds q) → holds_from holds' first count ≡ holds_from holds first count
same_holds holds holds' first zero same = refl
same_holds holds holds' first (suc count) same = rw (same first (omega arith), same_holds holds holds' (first + 1) count (λ q least. same q (omega arith))) refl

no_holds : (holds : ℕ → ℕ) (first count : ℕ) → ((q : ℕ) → holds q ≡ 0) → holds_from holds first count ≡ []
no_holds holds first zero none = refl
no_holds holds first (suc count) none = rw (none first) (no_holds holds (first + 1) count none)

counted : (holds : ℕ → ℕ) (stream first count : ℕ) → first ≤ stream → stream < first + count → hold_count stream (holds_from holds first count) ≡ holds stream
counted holds stream first zero low high = absurd (omega arith)
counted holds stream first (suc count) low high =
    elim (cases_eq first stream) [
      | inl here ↦ rw here (own_count (holds stream) stream (holds_from holds (stream + 1) count) (below_count holds stream (stream + 1) count (omega arith)))
      | inr differs ↦
          front_count (holds first) stream first (holds_from holds (first + 1) count) differs
          ∙ counted holds stream (first + 1) count (omega arith) (omega arith)
    ]

module _ (holds holds' : ℕ → ℕ) (stream : ℕ) (others : (q : ℕ) → q ≢ stream → holds' q ≡ holds q) where
  one_more : (first count : ℕ) → holds' stream ≡ holds stream + 1 → first ≤ stream → stream < first + count
      → holds_from holds' first count ≡ with_hold stream (holds_from holds first count)
  one_more first zero more low high = absurd (omega arith)
  one_more first (suc count) more low high =
      elim (cases_eq first stream) [
        | inl here ↦
            rw (here, more, same_holds holds holds' (stream + 1) count (λ q least. others q (λ e. omega arith)))
            (plus_one (holds stream) (holds_from holds (stream + 1) count)
            ∙ sym (own_more (holds stream) stream (holds_from holds (stream + 1) count) (below_more holds stream (stream + 1) count (omega arith))))
        | inr differs ↦
            rw (others first differs, one_more (first + 1) count more (omega arith) (omega arith))
            (sym (front_more (holds first) stream first (holds_from holds (first + 1) count) (omega arith)))
      ]
    where
      plus_one : (count : ℕ) (rest : List ℕ) → repeated (count + 1) stream rest ≡ stream ∷ repeated count stream rest
      plus_one count rest = let one : count + 1 ≡ suc count = omega arith in rw one refl

  one_fewer : (first count : ℕ) → holds' stream ≡ holds stream - 1 → first ≤ stream → stream < first + count
      → holds_from holds' first count ≡ without_hold stream (holds_from holds first count)
  one_fewer first zero fewer low high = absurd (omega arith)
  one_fewer first (suc count) fewer low high =
      elim (cases_eq first stream) [
        | inl here ↦
            rw (here, fewer, same_holds holds holds' (stream + 1) count (λ q least. others q (λ e. omega arith)))
            (sym (own_fewer (holds stream) stream (holds_from holds (stream + 1) count) (below_fewer holds stream (stream + 1) count (omega arith))))
        | inr differs ↦
            rw (others first differs, one_fewer (first + 1) count fewer (omega arith) (omega arith))
            (sym (front_fewer (holds first) stream first (holds_from holds (first + 1) count) differs))
      ]

-- ---- the holds of a map

pub hold_count-holds_of : (grants : BTreeMap ℕ Grant) (stream : ℕ) → stream < 65536 → hold_count stream (holds_of grants) ≡ holds_at grants stream
unfolding holds_of
hold_count-holds_of grants stream below = counted (holds_at grants) stream 0 65536 (omega arith) (omega arith)

pub holds_same : (old new : BTreeMap ℕ Grant) → ((q : ℕ) → holds_at new q ≡ holds_at old q) → holds_of new ≡ holds_of old
unfolding holds_of
holds_same old new same = same_holds (holds_at old) (holds_at new) 0 65536 (λ q least. same q)

pub holds_none : (grants : BTreeMap ℕ Grant) → ((q : ℕ) → holds_at grants q ≡ 0) → holds_of grants ≡ []
unfolding holds_of
holds_none grants none = no_holds (holds_at grants) 0 65536 none

pub holds_more : (old new : BTreeMap ℕ Grant) (stream : ℕ) → stream < 65536
    → ((q : ℕ) → holds_at new q ≡ cond (q == stream) (holds_at old q + 1) (holds_at old q)) → holds_of new ≡ with_hold stream (holds_of old)
unfolding holds_of
holds_more old new stream below put =
    one_more (holds_at old) (holds_at new) stream (λ q differs. put q ∙ rw (ne_eqb q stream differs) refl) 0 65536
    (put stream ∙ rw (eq-eqb stream stream refl) refl) (omega arith) (omega arith)

pub holds_fewer : (old new : BTreeMap ℕ Grant) (stream : ℕ) → stream < 65536
    → ((q : ℕ) → holds_at new q ≡ cond (q == stream) (holds_at old q - 1) (holds_at old q)) → holds_of new ≡ without_hold stream (holds_of old)
unfolding holds_of
holds_fewer old new stream below put =
    one_fewer (holds_at old) (holds_at new) stream (λ q differs. put q ∙ rw (ne_eqb q stream differs) refl) 0 65536
    (put stream ∙ rw (eq-eqb stream stream refl) refl) (omega arith) (omega arith)

pub length-with_hold : (stream : ℕ) (holds : List ℕ) → length (with_hold stream holds) ≡ suc (length holds)
length-with_hold stream [] = refl
length-with_hold stream (own ∷ holds) = grind (arith, length-with_hold stream holds)

pub length-without_hold : (stream : ℕ) (holds : List ℕ) → length (without_hold stream holds) ≤ length holds
length-without_hold stream [] = omega arith
length-without_hold stream (own ∷ holds) = grind (arith, length-without_hold stream holds)

pub hold_count-le : (stream : ℕ) (holds : List ℕ) → hold_count stream holds ≤ length holds
hold_count-le stream [] = omega arith
hold_count-le stream (own ∷ holds) = grind (arith, hold_count-le stream holds)
