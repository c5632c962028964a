-- The index of the rows that staged changes set or stopped stays right as rows are noted and let go.
use Rattle.std.proofs.Common.{◌≡◌, ◌∙◌, ◌||◌, ℕ, Bool, true, false, cond, List, [], ◌∷◌, ◌++◌, not, Option, Some, None, refl, sym, ap, subst}
use Rattle.std.specs.List.{list_any}
use Rattle.std.specs.BTreeSet as set
use Rattle.std.specs.BTreeSet.{BTreeSet}
use Rattle.std.specs.BTreeMap.{is_at}
use Rattle.std.specs.Cmp.Lexicographic.{slice_cmp}
use Rattle.std.specs.Ordering.{nat_cmp}
use Rattle.std.specs.Str.{bytes_eq}
use Rattle.std.proofs.lemmas.List.Folds.{list_any-append}
use Rattle.std.proofs.lemmas.Map.Text.{is_eq-slice_cmp}
use Rattle.std.proofs.lemmas.Slice.Eq.{bytes_eq-Decides}
use Rattle.rtc_sdp_values.specs.Mids.{is_among, AreDistinct}
use Rattle.rtc_sdp_values.specs.declared.direction.Direction.{Direction}
use Rattle.rtc_sdp_values.specs.declared.line_row.LineRow.{LineRow}
use Rattle.rtc_sdp_values.specs.declared.line_row.LineRow.TheVariants.{Media, App}
use Rattle.rtc_sdp_values.specs.declared.media_kind.MediaKind.{MediaKind}
use Rattle.rtc_peer_core.specs.Calls.{noted_of}
use Rattle.rtc_peer_core.specs.Undo.{RowBefore, undo_mids, has_undo, has_undo_of, noted, without_last}
use Rattle.rtc_peer_core.specs.UndoIndex.{IsNoted}

-- nothing is noted
pub nothing_noted : (mids : BTreeSet (List ℕ)) → mids.keys ≡ [] → IsNoted [] mids
nothing_noted mids empty = record {
  held = λ mid. ap (λ (keys : List (List ℕ)). list_any (is_at (slice_cmp nat_cmp mid)) keys) empty;
  once = tt;
}

-- the last row goes from behind the others
pub without_last-append : (undo : List RowBefore) (was : RowBefore) → without_last (undo ++ was ∷ []) ≡ undo
without_last-append [] was = refl
without_last-append (first ∷ []) was = refl
without_last-append (first ∷ next ∷ undo) was = ap (λ (rows : List RowBefore). first ∷ rows) (without_last-append (next ∷ undo) was)

undo_mids-append : (undo : List RowBefore) (was : RowBefore) → undo_mids (undo ++ was ∷ []) ≡ undo_mids undo ++ was.0 ∷ []
undo_mids-append [] was = refl
undo_mids-append (first ∷ undo) was = ap (λ (mids : List (List ℕ)). first.0 ∷ mids) (undo_mids-append undo was)

put_behind : (here there : Bool) → cond here true there ≡ (there || (here || false))
put_behind true true = refl
put_behind true false = refl
put_behind false true = refl
put_behind false false = refl

neither : (one other : Bool) → (one || other) ≡ false → (one ≡ false) × (other ≡ false)
neither true other none = absurd (let e : true ≡ false = none in cc)
neither false other none = (refl, none)

nothing_behind : (there : Bool) → (there || (false || false)) ≡ there
nothing_behind true = refl
nothing_behind false = refl

apart_back : (one other : List ℕ) → bytes_eq one other ≡ false → bytes_eq other one ≡ false
apart_back one other apart = by (bytes_eq other one) refl
  where
    by : (same : Bool) → bytes_eq other one ≡ same → bytes_eq other one ≡ false
    by true is = absurd (let e : true ≡ false = sym ((bytes_eq-Decides one other).1 (sym ((bytes_eq-Decides other one).0 is))) ∙ apart in cc)
    by false is = is

-- one more mid, which was not among them
distinct_more : (mids : List (List ℕ)) (mid : List ℕ) → AreDistinct mids → is_among mids mid ≡ false → AreDistinct (mids ++ mid ∷ [])
distinct_more [] mid distinct apart = (refl, tt)
distinct_more (first ∷ mids) mid distinct apart =
    let parts = neither (bytes_eq first mid) (is_among mids mid) apart in
    let back : bytes_eq mid first ≡ false = apart_back first mid parts.0 in
    (list_any-append (λ other. bytes_eq other first) mids (mid ∷ []) ∙ rw (distinct.0, back) refl, distinct_more mids mid distinct.1 parts.1)

-- and one fewer
distinct_fewer : (mids : List (List ℕ)) (mid : List ℕ) → AreDistinct (mids ++ mid ∷ []) → AreDistinct mids
distinct_fewer [] mid distinct = tt
distinct_fewer (first ∷ mids) mid distinct =
    let parts = neither (is_among mids first) (bytes_eq mid first || false) (sym (list_any-append (λ other. bytes_eq other first) mids (mid ∷ [])) ∙ distinct.0) in
    (parts.0, distinct_fewer mids mid distinct.1)

-- the last one is not among the others
last_apart : (mids : List (List ℕ)) (mid : List ℕ) → AreDistinct (mids ++ mid ∷ []) → is_among mids mid ≡ false
last_apart [] mid distinct = refl
last_apart (first ∷ mids) mid distinct =
    let parts = neither (is_among mids first) (bytes_eq mid first || false) (sym (list_any-append (λ other. bytes_eq other first) mids (mid ∷ [])) ∙ distinct.0) in
    let apart : bytes_eq first mid ≡ false = apart_back mid first (neither (bytes_eq mid first) false parts.1).0 in
    rw apart (last_apart mids mid distinct.1)

among_more : (undo : List RowBefore) (was : RowBefore) (mid : List ℕ)
    → is_among (undo_mids (undo ++ was ∷ [])) mid ≡ (is_among (undo_mids undo) mid || (bytes_eq was.0 mid || false))
among_more undo was mid =
    ap (λ (mids : List (List ℕ)). is_among mids mid) (undo_mids-append undo was) ∙ list_any-append (λ other. bytes_eq other mid) (undo_mids undo) (was.0 ∷ [])

-- one more row is noted
pub one_noted : (undo : List RowBefore) (mids mids' : BTreeSet (List ℕ)) (was : RowBefore) → IsNoted undo mids → is_among (undo_mids undo) was.0 ≡ false
    → ((mid : List ℕ) → set.contains (slice_cmp nat_cmp) mids' mid ≡ cond (is_at (slice_cmp nat_cmp was.0) mid) true (set.contains (slice_cmp nat_cmp) mids mid))
    → IsNoted (undo ++ was ∷ []) mids'
one_noted undo mids mids' was index apart insertion = record {
  held = λ mid. insertion mid
      ∙ ap (λ (b : Bool). cond b true (set.contains (slice_cmp nat_cmp) mids mid)) (is_eq-slice_cmp was.0 mid)
      ∙ ap (λ (b : Bool). cond (bytes_eq was.0 mid) true b) (index.held mid)
      ∙ put_behind (bytes_eq was.0 mid) (is_among (undo_mids undo) mid)
      ∙ sym (among_more undo was mid);
  once = subst (λ (mids : List (List ℕ)). AreDistinct mids) (sym (undo_mids-append undo was)) (distinct_more (undo_mids undo) was.0 index.once apart);
}

-- the last row is let go
pub last_forgotten : (undo : List RowBefore) (mids mids' : BTreeSet (List ℕ)) (was : RowBefore) → IsNoted (undo ++ was ∷ []) mids
    → ((mid : List ℕ) → set.contains (slice_cmp nat_cmp) mids' mid ≡ cond (is_at (slice_cmp nat_cmp was.0) mid) false (set.contains (slice_cmp nat_cmp) mids mid))
    → IsNoted undo mids'
last_forgotten undo mids mids' was index removal = record {
  held = λ mid. removal mid ∙ held mid (bytes_eq was.0 mid) refl;
  once = distinct_fewer (undo_mids undo) was.0 distinct;
}
  where
    distinct : AreDistinct (undo_mids undo ++ was.0 ∷ [])
    distinct = subst (λ (mids : List (List ℕ)). AreDistinct mids) (undo_mids-append undo was) index.once

    held : (mid : List ℕ) (here : Bool) → bytes_eq was.0 mid ≡ here
        → cond (is_at (slice_cmp nat_cmp was.0) mid) false (set.contains (slice_cmp nat_cmp) mids mid) ≡ is_among (undo_mids undo) mid
    held mid true is =
        ap (λ (b : Bool). cond b false (set.contains (slice_cmp nat_cmp) mids mid)) (is_eq-slice_cmp was.0 mid ∙ is)
        ∙ sym (ap (λ (m : List ℕ). is_among (undo_mids undo) m) (sym ((bytes_eq-Decides was.0 mid).0 is)) ∙ last_apart (undo_mids undo) was.0 distinct)
    held mid false is =
        ap (λ (b : Bool). cond b false (set.contains (slice_cmp nat_cmp) mids mid)) (is_eq-slice_cmp was.0 mid ∙ is)
        ∙ index.held mid
        ∙ among_more undo was mid
        ∙ ap (λ (b : Bool). is_among (undo_mids undo) mid || (b || false)) is
        ∙ nothing_behind (is_among (undo_mids undo) mid)

-- what was noted of a row is let go again
forgotten_row : (row : LineRow) (undo : List RowBefore) → not (has_undo row undo) ≡ true → without_last (noted row undo) ≡ undo
forgotten_row (Media place mid kind dir stopped remote_created) undo new = by (is_among (undo_mids undo) mid) refl
  where
    by : (among : Bool) → is_among (undo_mids undo) mid ≡ among → without_last (noted (Media place mid kind dir stopped remote_created) undo) ≡ undo
    by true is = absurd (let e : false ≡ true = sym (ap not is) ∙ new in cc)
    by false is = rw is (without_last-append undo (mid, dir, stopped))
forgotten_row (App place mid) undo new = absurd (let e : false ≡ true = new in cc)

kept_row : (row : LineRow) (undo : List RowBefore) → not (has_undo row undo) ≡ false → noted row undo ≡ undo
kept_row (Media place mid kind dir stopped remote_created) undo old = by (is_among (undo_mids undo) mid) refl
  where
    by : (among : Bool) → is_among (undo_mids undo) mid ≡ among → noted (Media place mid kind dir stopped remote_created) undo ≡ undo
    by true is = rw is refl
    by false is = absurd (let e : true ≡ false = sym (ap not is) ∙ old in cc)
kept_row (App place mid) undo old = refl

pub forgotten_again : (row : Option LineRow) (undo : List RowBefore) → not (has_undo_of row undo) ≡ true → without_last (noted_of row undo) ≡ undo
forgotten_again None undo new = absurd (let e : false ≡ true = new in cc)
forgotten_again (Some row) undo new = forgotten_row row undo new

pub noted_before : (row : Option LineRow) (undo : List RowBefore) → not (has_undo_of row undo) ≡ false → noted_of row undo ≡ undo
noted_before None undo old = refl
noted_before (Some row) undo old = kept_row row undo old

-- a row that is among them is noted already
pub noted_already : (row : LineRow) (undo : List RowBefore) (place : ℕ) (mid : List ℕ) (kind : MediaKind) (dir : Direction) (stopped remote_created : Bool)
    → row ≡ Media place mid kind dir stopped remote_created → is_among (undo_mids undo) mid ≡ true → undo ≡ noted row undo
noted_already row undo place mid kind dir stopped remote_created is among = rw (is, among) refl
