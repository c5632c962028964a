-- One more attribute, in a loop that keeps the place of the first of each name.
use Rattle.std.proofs.Common.{◌≡◌, ℕ, ◌+◌, ◌<◌, Bool, true, false, cond, List, [], ◌∷◌, ◌++◌, take, length, get_or, Option, Some, None, zero, suc, arith, refl, sym, ap, ◌∙◌, inl, inr}
use Rattle.std.specs.Prelude.{option_map, slice_get, is_some}
use Rattle.std.specs.Str.{bytes_eq}
use Rattle.std.specs.Ordering.{nat_cmp}
use Rattle.std.specs.Cmp.Lexicographic.{slice_cmp}
use Rattle.std.specs.BTreeMap as map
use Rattle.std.specs.BTreeMap.{BTreeMap, is_at}
use Rattle.std.proofs.lemmas.List.{take_more}
use Rattle.std.proofs.Math.Seq.{take-length}
use Rattle.std.proofs.lemmas.Map.Text.{is_eq-slice_cmp}
use Rattle.std.specs.Option.{option_or}
use Rattle.rtc_wire_text.specs.Fields.{first}
use Rattle.rtc_wire_text.proofs.OnceLemmas.{bytes_tell}
use Rattle.rtc_sdp_attributes.specs.declared.rid_direction.RidDirection.{RidDirection}
use Rattle.rtc_sdp_attributes.specs.declared.rid_line.RidLine.{RidLine}
use Rattle.rtc_sdp_reader.specs.Layers.{same_rid_direction}
use Rattle.rtc_sdp_reader.specs.Layers.{Pairs, pairs_in, or_no_pairs, pairs_for}
use Rattle.rtc_sdp_reader.specs.Places.{pairs_at, AreFirst}

option_or_assoc : {B : Type 0} (a b c : Option B) → option_or a (option_or b c) ≡ option_or (option_or a b) c
option_or_assoc None b c = refl
option_or_assoc (Some x) b c = refl

pub option_or_none : {B : Type 0} (a : Option B) → option_or a None ≡ a
option_or_none None = refl
option_or_none (Some x) = refl

first-push : {A B : Type 0} (gives : A → Option B) (xs : List A) (x : A) → first gives (xs ++ x ∷ []) ≡ option_or (first gives xs) (gives x)
first-push gives [] x = option_or_none (gives x)
first-push gives (y ∷ ys) x = ap (option_or (gives y)) (first-push gives ys x) ∙ option_or_assoc (gives y) (first gives ys) (gives x)

-- what the first gives, with one more
pub first_more : {A B : Type 0} (gives : A → Option B) (rows : List A) (i : ℕ) (d x : A) → i < length rows → x ≡ get_or rows i d → first gives (take (i + 1) rows) ≡ option_or (first gives (take i rows)) (gives x)
first_more {A = A} gives rows i d x lt is =
    let more : take (i + 1) rows ≡ take i rows ++ x ∷ [] = take_more rows i d lt ∙ ap (λ (y : A). take i rows ++ y ∷ []) (sym is) in
    ap (first gives) more ∙ first-push gives (take i rows) x

-- an attribute of another direction changes nothing
pub passes_over : (lines : List RidLine) (direction : RidDirection) (i : ℕ) (found : BTreeMap (List ℕ) ℕ) (x : RidLine) → i < length lines → x ≡ get_or lines i x
    → same_rid_direction x.direction direction ≡ false → AreFirst lines direction i found → AreFirst lines direction (i + 1) found
passes_over lines direction i found x lt is other h q =
    let nothing : pairs_in direction q x ≡ None = rw other refl in
    h q ∙ sym (option_or_none (first (pairs_in direction q) (take i lines))) ∙ ap (option_or (first (pairs_in direction q) (take i lines))) (sym nothing) ∙ sym (first_more (pairs_in direction q) lines i x x lt is)

other_name : (direction : RidDirection) (q : List ℕ) (x : RidLine) → same_rid_direction x.direction direction ≡ true → bytes_eq x.rid q ≡ false → pairs_in direction q x ≡ None
other_name direction q x same other = rw (same, other) refl

own_name : (direction : RidDirection) (q : List ℕ) (x : RidLine) → same_rid_direction x.direction direction ≡ true → bytes_eq x.rid q ≡ true → pairs_in direction q x ≡ Some x.attributes
own_name direction q x same own = rw (same, own) refl

there : (lines : List RidLine) (o : Option ℕ) (r : Option Pairs) → is_some o ≡ true → pairs_at lines o ≡ option_or (pairs_at lines o) r
there lines None r h = absurd cc
there lines (Some j) r h = refl

-- nor one of a name that the map has
pub passes_known : (lines : List RidLine) (direction : RidDirection) (i : ℕ) (found : BTreeMap (List ℕ) ℕ) (x : RidLine) → i < length lines → x ≡ get_or lines i x
    → same_rid_direction x.direction direction ≡ true → is_some (map.get (slice_cmp nat_cmp) found x.rid) ≡ true → AreFirst lines direction i found → AreFirst lines direction (i + 1) found
passes_known lines direction i found x lt is same known h q =
    let at : Option ℕ = map.get (slice_cmp nat_cmp) found q in
    let before : Option Pairs = first (pairs_in direction q) (take i lines) in
    let more : first (pairs_in direction q) (take (i + 1) lines) ≡ option_or before (pairs_in direction q x) = first_more (pairs_in direction q) lines i x x lt is in
    elim (bytes_tell x.rid q) [
      | inl (_, e) ↦ there lines at (pairs_in direction q x) (ap (λ (r : List ℕ). is_some (map.get (slice_cmp nat_cmp) found r)) (sym e) ∙ known)
          ∙ ap (λ (o : Option Pairs). option_or o (pairs_in direction q x)) (h q) ∙ sym more
      | inr (f, _) ↦ h q ∙ sym (option_or_none before) ∙ ap (option_or before) (sym (other_name direction q x same f)) ∙ sym more
    ]

absent : (o : Option ℕ) → is_some o ≡ false → o ≡ None
absent None h = refl
absent (Some j) h = absurd cc

slice_get_at : (lines : List RidLine) (i : ℕ) (x : RidLine) → i < length lines → x ≡ get_or lines i x → slice_get lines i ≡ Some x
slice_get_at [] i x lt is = absurd (omega arith)
slice_get_at (line ∷ lines) zero x lt is = ap Some (sym is)
slice_get_at (line ∷ lines) (suc i) x lt is = slice_get_at lines i x (omega arith) is

-- the pairs that a look in the map finds
pub pairs_found : (lines : List RidLine) (direction : RidDirection) (found : BTreeMap (List ℕ) ℕ) (rid : List ℕ) → AreFirst lines direction (length lines) found → or_no_pairs (pairs_at lines (map.get (slice_cmp nat_cmp) found rid)) ≡ pairs_for lines direction rid
pairs_found lines direction found rid h = ap or_no_pairs (h rid ∙ ap (first (pairs_in direction rid)) (take-length lines))

-- and one of a new name is the first of it
pub puts_new : (lines : List RidLine) (direction : RidDirection) (i : ℕ) (found now : BTreeMap (List ℕ) ℕ) (x : RidLine) → i < length lines → x ≡ get_or lines i x
    → same_rid_direction x.direction direction ≡ true → is_some (map.get (slice_cmp nat_cmp) found x.rid) ≡ false
    → ((q : List ℕ) → map.get (slice_cmp nat_cmp) now q ≡ cond (is_at (slice_cmp nat_cmp x.rid) q) (Some i) (map.get (slice_cmp nat_cmp) found q))
    → AreFirst lines direction i found → AreFirst lines direction (i + 1) now
puts_new lines direction i found now x lt is same new put h q =
    let before : Option Pairs = first (pairs_in direction q) (take i lines) in
    let more : first (pairs_in direction q) (take (i + 1) lines) ≡ option_or before (pairs_in direction q x) = first_more (pairs_in direction q) lines i x x lt is in
    let got : map.get (slice_cmp nat_cmp) now q ≡ cond (bytes_eq x.rid q) (Some i) (map.get (slice_cmp nat_cmp) found q) =
    put q ∙ ap (λ (b : Bool). cond b (Some i) (map.get (slice_cmp nat_cmp) found q)) (is_eq-slice_cmp x.rid q) in
    elim (bytes_tell x.rid q) [
      | inl (t, e) ↦
          let here : map.get (slice_cmp nat_cmp) now q ≡ Some i = rw t at got in
          let none : map.get (slice_cmp nat_cmp) found q ≡ None = ap (λ (r : List ℕ). map.get (slice_cmp nat_cmp) found r) (sym e) ∙ absent (map.get (slice_cmp nat_cmp) found x.rid) new in
          let nothing : before ≡ None = sym (h q) ∙ ap (pairs_at lines) none in
          ap (pairs_at lines) here
          ∙ ap (λ (o : Option RidLine). Some (or_no_pairs (option_map (λ line. line.attributes) o))) (slice_get_at lines i x lt is)
          ∙ sym (more ∙ ap (λ (o : Option Pairs). option_or o (pairs_in direction q x)) nothing ∙ own_name direction q x same t)
      | inr (f, _) ↦
          let there : map.get (slice_cmp nat_cmp) now q ≡ map.get (slice_cmp nat_cmp) found q = rw f at got in
          ap (pairs_at lines) there ∙ h q ∙ sym (option_or_none before) ∙ ap (option_or before) (sym (other_name direction q x same f)) ∙ sym more
    ]
