-- The front of a stream, once it is known, stays as it is however the stream goes on.
use Rattle.std.proofs.Common.{◌≡◌, ℕ, ◌-◌, ◌≤◌, ◌∙◌, List, [], ◌++◌, length, take, drop, Option, Some, None, refl, ap, subst, arith, length-append, length-drop}
use Rattle.std.specs.Prelude.{slice_range}
use Rattle.std.specs.Int.{w32, from_be_bytes}
use Rattle.std.proofs.lemmas.Bool.Decides.{nat_tests}
use Rattle.std.proofs.lemmas.List.{take-append-le, drop-append-le}
use Rattle.rtc_gate_calls.specs.declared.extent.FrameExtent.{FrameExtent}
use Rattle.rtc_gate_calls.specs.declared.extent.FrameExtent.TheVariants.{Partial, OutOfRange, Whole}
use Rattle.rtc_gate_calls.specs.Signal.{Signal, signal_in, extent_of, frame_extent}
use Rattle.rtc_gate_calls.specs.SignalStream.{Unfinished, Malformed, Arrived, front_with, front_within, signal_front}

-- a whole frame stays one with more bytes behind it
extent_whole : (n m k size : ℕ) → extent_of n k ≡ Whole size → n ≤ m → (extent_of m k ≡ Whole size) × (4 ≤ n) × (size ≤ n) × (7 ≤ size)
extent_whole n m k size is more = grind (arith, nat_tests)

extent_out : (n m k : ℕ) → extent_of n k ≡ OutOfRange → n ≤ m → (extent_of m k ≡ OutOfRange) × (4 ≤ n)
extent_out n m k is more = grind (arith, nat_tests)

-- what a front that is known says of the extent
arrived_is : (e : FrameExtent) (x : List ℕ) (s : Signal) (n : ℕ) → front_within e x ≡ Arrived s n → (e ≡ Whole n) × (signal_in (slice_range x 4 n) ≡ Some s)
arrived_is Partial x s n is = absurd (cc)
arrived_is OutOfRange x s n is = absurd (cc)
arrived_is (Whole size) x s n is = go (signal_in (slice_range x 4 size)) refl is
  where
    go : (o : Option Signal) → signal_in (slice_range x 4 size) ≡ o → front_with o size ≡ Arrived s n → (Whole size ≡ Whole n) × (signal_in (slice_range x 4 n) ≡ Some s)
    go None at is = absurd (cc)
    go (Some t) at is =
        let same : size ≡ n = cc in
        let said : t ≡ s = cc in
        (ap Whole same, subst (λ (k : ℕ). signal_in (slice_range x 4 k) ≡ Some s) same (at ∙ ap Some said))

malformed_is : (e : FrameExtent) (x : List ℕ) → front_within e x ≡ Malformed → (e ≡ OutOfRange → ⊥) → (n : ℕ) × (e ≡ Whole n) × (signal_in (slice_range x 4 n) ≡ None)
malformed_is Partial x is other = absurd (cc)
malformed_is OutOfRange x is other = absurd (other refl)
malformed_is (Whole size) x is other = go (signal_in (slice_range x 4 size)) refl is
  where
    go : (o : Option Signal) → signal_in (slice_range x 4 size) ≡ o → front_with o size ≡ Malformed → (n : ℕ) × (Whole size ≡ Whole n) × (signal_in (slice_range x 4 n) ≡ None)
    go None at is = (size, refl, at)
    go (Some t) at is = absurd (cc)

-- neither the length nor the body changes
announced_more : (x y : List ℕ) → 4 ≤ length x → from_be_bytes w32 (take 4 (x ++ y)) ≡ from_be_bytes w32 (take 4 x)
announced_more x y h = ap (from_be_bytes w32) (take-append-le 4 x y h)

body_more : (x y : List ℕ) (n : ℕ) → 4 ≤ length x → n ≤ length x → slice_range (x ++ y) 4 n ≡ slice_range x 4 n
body_more x y n h below =
    let rest : drop 4 (x ++ y) ≡ drop 4 x ++ y = drop-append-le 4 x y h in
    let short : n - 4 ≤ length (drop 4 x) = simp length-drop (omega arith) in
    ap (take (n - 4)) rest ∙ take-append-le (n - 4) (drop 4 x) y short

longer : (x y : List ℕ) → length x ≤ length (x ++ y)
longer x y = simp length-append (omega arith)

pub front_nil : signal_front [] ≡ Unfinished
unfolding signal_front
front_nil = refl

-- a frame that is whole
pub front_arrived : (x y : List ℕ) (s : Signal) (n : ℕ) → signal_front x ≡ Arrived s n → (signal_front (x ++ y) ≡ Arrived s n) × (n ≤ length x) × (7 ≤ n)
unfolding signal_front
front_arrived x y s n is =
    let known = arrived_is (frame_extent x) x s n is in
    let whole = extent_whole (length x) (length (x ++ y)) (from_be_bytes w32 (take 4 x)) n known.0 (longer x y) in
    let e : frame_extent (x ++ y) ≡ Whole n = ap (extent_of (length (x ++ y))) (announced_more x y whole.1) ∙ whole.0 in
    (ap (λ (e : FrameExtent). front_within e (x ++ y)) e ∙ ap (λ (o : Option Signal). front_with o n) (ap signal_in (body_more x y n whole.1 whole.2) ∙ known.1), whole.2, whole.3)

-- one that may not come in
pub front_malformed : (x y : List ℕ) → signal_front x ≡ Malformed → signal_front (x ++ y) ≡ Malformed
unfolding signal_front
front_malformed x y is = go (frame_extent x) refl
  where
    go : (e : FrameExtent) → frame_extent x ≡ e → front_within (frame_extent (x ++ y)) (x ++ y) ≡ Malformed
    go Partial at = absurd (let h : front_within Partial x ≡ Malformed = subst (λ (e : FrameExtent). front_within e x ≡ Malformed) at is in cc)
    go OutOfRange at =
        let out = extent_out (length x) (length (x ++ y)) (from_be_bytes w32 (take 4 x)) at (longer x y) in
        let e : frame_extent (x ++ y) ≡ OutOfRange = ap (extent_of (length (x ++ y))) (announced_more x y out.1) ∙ out.0 in
        ap (λ (e : FrameExtent). front_within e (x ++ y)) e
    go (Whole size) at =
        let whole = extent_whole (length x) (length (x ++ y)) (from_be_bytes w32 (take 4 x)) size at (longer x y) in
        let e : frame_extent (x ++ y) ≡ Whole size = ap (extent_of (length (x ++ y))) (announced_more x y whole.1) ∙ whole.0 in
        let front : front_with (signal_in (slice_range x 4 size)) size ≡ Malformed = subst (λ (e : FrameExtent). front_within e x ≡ Malformed) at is in
        ap (λ (e : FrameExtent). front_within e (x ++ y)) e ∙ ap (λ (o : Option Signal). front_with o size) (ap signal_in (body_more x y size whole.1 whole.2)) ∙ front
