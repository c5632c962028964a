-- Loops that keep numbers in maps and sets.
use Rattle.std.proofs.Common.{◌≡◌, ℕ, ◌+◌, ◌<◌, eqb, Bool, true, false, not, cond, ◌||◌, List, [], ◌∷◌, ◌++◌, take, drop, length, get_or, Option, Some, None, arith, add-one, drop-cons, append_assoc, refl, sym, ap, ◌∙◌, inl, inr}
use Rattle.std.specs.Prelude.{is_some}
use Rattle.std.specs.List.{filter_map}
use Rattle.std.specs.Ordering.{nat_cmp}
use Rattle.std.specs.BTreeMap as map
use Rattle.std.specs.BTreeMap.{BTreeMap, is_at}
use Rattle.std.specs.BTreeSet as set
use Rattle.std.specs.BTreeSet.{BTreeSet}
use Rattle.std.proofs.lemmas.Bool.Decides.{eqb_tells, nat_tests}
use Rattle.std.proofs.lemmas.List.{take_more}
use Rattle.std.proofs.lemmas.List.Folds.{list_any-append}
use Rattle.std.specs.Option.{option_or}
use Rattle.rtc_wire_text.proofs.OnceLemmas.{among, grown, is_grown}
use Rattle.rtc_sdp_values.specs.declared.ssrc.Ssrc.{Ssrc}
use Rattle.rtc_sdp_reader.specs.Sources.{rtx_for, rtx_of, is_rtx, source_named}
use Rattle.rtc_sdp_reader.proofs.PlaceLemmas.{first_more, option_or_none}

at_number : (k q : ℕ) → is_at (nat_cmp k) q ≡ eqb k q
at_number k q = grind (arith, nat_tests)

-- what a map has after an insertion
abbrev Put : BTreeMap ℕ Ssrc → BTreeMap ℕ Ssrc → ℕ → Ssrc → Type 0
Put found now k v = (q : ℕ) → map.get nat_cmp now q ≡ cond (is_at (nat_cmp k) q) (Some v) (map.get nat_cmp found q)

-- the map has the first of each of the first pairs
abbrev pub HasFirst : List (Ssrc × Ssrc) → ℕ → BTreeMap ℕ Ssrc → Type 0
HasFirst pairs i found = (q : ℕ) → map.get nat_cmp found q ≡ rtx_of (take i pairs) q

kept : (before : Option Ssrc) (r : Option Ssrc) → is_some before ≡ true → before ≡ option_or before r
kept None r h = absurd cc
kept (Some s) r h = refl

absent : (o : Option Ssrc) → is_some o ≡ false → o ≡ None
absent None h = refl
absent (Some s) h = absurd cc

pub pair_known : (pairs : List (Ssrc × Ssrc)) (i : ℕ) (found : BTreeMap ℕ Ssrc) (d x : Ssrc × Ssrc) → i < length pairs → x ≡ get_or pairs i d → is_some (map.get nat_cmp found x.0.0) ≡ true → HasFirst pairs i found → HasFirst pairs (i + 1) found
pair_known pairs i found d x lt is known h q =
    let before : Option Ssrc = rtx_of (take i pairs) q in
    let more : rtx_of (take (i + 1) pairs) q ≡ option_or before (rtx_for q x) = first_more (rtx_for q) pairs i d x lt is in
    elim (eqb_tells x.0.0 q) [
      | inl (_, e) ↦ h q ∙ kept before (rtx_for q x) (ap is_some (sym (h q)) ∙ ap (λ (k : ℕ). is_some (map.get nat_cmp found k)) (sym e) ∙ known) ∙ sym more
      | inr (f, _) ↦ let nothing : rtx_for q x ≡ None = rw f refl in h q ∙ sym (option_or_none before) ∙ ap (option_or before) (sym nothing) ∙ sym more
    ]

pub pair_new : (pairs : List (Ssrc × Ssrc)) (i : ℕ) (found now : BTreeMap ℕ Ssrc) (d x : Ssrc × Ssrc) → i < length pairs → x ≡ get_or pairs i d → is_some (map.get nat_cmp found x.0.0) ≡ false → Put found now x.0.0 x.1 → HasFirst pairs i found → HasFirst pairs (i + 1) now
pair_new pairs i found now d x lt is new put h q =
    let before : Option Ssrc = rtx_of (take i pairs) q in
    let more : rtx_of (take (i + 1) pairs) q ≡ option_or before (rtx_for q x) = first_more (rtx_for q) pairs i d x lt is in
    let got : map.get nat_cmp now q ≡ cond (eqb x.0.0 q) (Some x.1) (map.get nat_cmp found q) = put q ∙ ap (λ (b : Bool). cond b (Some x.1) (map.get nat_cmp found q)) (at_number x.0.0 q) in
    elim (eqb_tells x.0.0 q) [
      | inl (t, e) ↦
          let nothing : before ≡ None = sym (h q) ∙ ap (map.get nat_cmp found) (sym e) ∙ absent (map.get nat_cmp found x.0.0) new in
          let own : rtx_for q x ≡ Some x.1 = rw t refl in
          let here : map.get nat_cmp now q ≡ Some x.1 = rw t at got in
          here ∙ sym (more ∙ ap (λ (o : Option Ssrc). option_or o (rtx_for q x)) nothing ∙ own)
      | inr (f, _) ↦
          let nothing : rtx_for q x ≡ None = rw f refl in
          let there : map.get nat_cmp now q ≡ map.get nat_cmp found q = rw f at got in
          there ∙ h q ∙ sym (option_or_none before) ∙ ap (option_or before) (sym nothing) ∙ sym more
    ]

-- ---- sets
abbrev Inserted : BTreeSet ℕ → BTreeSet ℕ → ℕ → Type 0
Inserted seen now x = (q : ℕ) → set.contains nat_cmp now q ≡ cond (is_at (nat_cmp x) q) true (set.contains nat_cmp seen q)

-- the set has what the list has
abbrev pub HasNumbers : BTreeSet ℕ → List ℕ → Type 0
HasNumbers seen once = (q : ℕ) → set.contains nat_cmp seen q ≡ among eqb q once

abbrev pub HasRtx : List (Ssrc × Ssrc) → ℕ → BTreeSet ℕ → Type 0
HasRtx pairs i found = (q : ℕ) → set.contains nat_cmp found q ≡ is_rtx (take i pairs) q

last_or : (a b : Bool) → cond a true b ≡ (b || (a || false))
last_or true true = refl
last_or true false = refl
last_or false true = refl
last_or false false = refl

pub rtx_more : (pairs : List (Ssrc × Ssrc)) (i : ℕ) (found now : BTreeSet ℕ) (d x : Ssrc × Ssrc) → i < length pairs → x ≡ get_or pairs i d → Inserted found now x.1.0 → HasRtx pairs i found → HasRtx pairs (i + 1) now
rtx_more pairs i found now d x lt is put h q =
    let more : take (i + 1) pairs ≡ take i pairs ++ x ∷ [] = take_more pairs i d lt ∙ ap (λ (y : Ssrc × Ssrc). take i pairs ++ y ∷ []) (sym is) in
    put q
    ∙ ap (λ (b : Bool). cond b true (set.contains nat_cmp found q)) (at_number x.1.0 q)
    ∙ ap (cond (eqb x.1.0 q) true) (h q)
    ∙ last_or (eqb x.1.0 q) (is_rtx (take i pairs) q)
    ∙ sym (ap (λ (l : List (Ssrc × Ssrc)). is_rtx l q) more ∙ list_any-append (λ pair. eqb pair.1.0 q) (take i pairs) (x ∷ []))

among_grown : (x q : ℕ) (once : List ℕ) (t : Bool) → among eqb x once ≡ t → cond (eqb x q) true (among eqb q once) ≡ among eqb q (grown t once x)
among_grown x q once true e = elim (eqb_tells x q) [
  | inl (same, is) ↦ rw same (sym e ∙ ap (λ (y : ℕ). among eqb y once) is)
  | inr (other, _) ↦ rw other refl
]
among_grown x q once false e = last_or (eqb x q) (among eqb q once) ∙ sym (list_any-append (λ y. eqb y q) once (x ∷ []))

pub numbers_grown : (seen now : BTreeSet ℕ) (x : ℕ) (once : List ℕ) → Inserted seen now x → HasNumbers seen once → HasNumbers now (grown (among eqb x once) once x)
numbers_grown seen now x once put h q =
    put q
    ∙ ap (λ (b : Bool). cond b true (set.contains nat_cmp seen q)) (at_number x q)
    ∙ ap (cond (eqb x q) true) (h q)
    ∙ among_grown x q once (among eqb x once) refl

opposite : (a b : Bool) → a ≡ not b → b ≡ not a
opposite a true h = sym (ap not h)
opposite a false h = sym (ap not h)

-- the list grew where the insertion was of something new
pub grew : (seen : BTreeSet ℕ) (x : ℕ) (once next : List ℕ) (added : Bool) → added ≡ not (set.contains nat_cmp seen x) → HasNumbers seen once → next ≡ grown (not added) once x → next ≡ grown (among eqb x once) once x
grew seen x once next added put h e = is_grown eqb (not added) once next x (sym (h x) ∙ opposite added (set.contains nat_cmp seen x) put) e

-- ---- the loop over sources
abbrev Row : Type 0
Row = Ssrc × Option Ssrc

at_front : (xs : List ℕ) (i : ℕ) → i < length xs → drop i xs ≡ get_or xs i 0 ∷ drop (i + 1) xs
at_front xs i lt = rw add-one (drop-cons xs i 0 lt)

-- a number of retransmissions is passed over
pub source_passed : (pairs : List (Ssrc × Ssrc)) (xs : List ℕ) (i : ℕ) (rows total : List Row) → i < length xs → is_rtx pairs (get_or xs i 0) ≡ true
    → rows ++ filter_map (source_named pairs) (drop i xs) ≡ total → rows ++ filter_map (source_named pairs) (drop (i + 1) xs) ≡ total
source_passed pairs xs i rows total lt e h =
    let step : filter_map (source_named pairs) (drop i xs) ≡ filter_map (source_named pairs) (drop (i + 1) xs) = rw (at_front xs i lt, e) refl in
    ap (λ (l : List Row). rows ++ l) (sym step) ∙ h

-- another one is a source
pub source_taken : (pairs : List (Ssrc × Ssrc)) (xs : List ℕ) (i : ℕ) (rows next total : List Row) (rtx : Option Ssrc) → i < length xs → is_rtx pairs (get_or xs i 0) ≡ false → rtx ≡ rtx_of pairs (get_or xs i 0)
    → next ≡ rows ++ (record { 0 = get_or xs i 0 }, rtx) ∷ [] → rows ++ filter_map (source_named pairs) (drop i xs) ≡ total → next ++ filter_map (source_named pairs) (drop (i + 1) xs) ≡ total
source_taken pairs xs i rows next total rtx lt e r put h =
    let row : Row = (record { 0 = get_or xs i 0 }, rtx) in
    let behind : List Row = filter_map (source_named pairs) (drop (i + 1) xs) in
    let step : filter_map (source_named pairs) (drop i xs) ≡ row ∷ behind = rw (at_front xs i lt, e, r) refl in
    ap (λ (l : List Row). l ++ behind) put ∙ append_assoc rows (row ∷ []) behind ∙ ap (λ (l : List Row). rows ++ l) (sym step) ∙ h
