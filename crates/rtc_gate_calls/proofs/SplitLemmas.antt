-- A stream may be cut anywhere.
use Rattle.std.proofs.Common.{◌≡◌, ℕ, zero, suc, ◌≤◌, ◌∙◌, true, List, [], ◌∷◌, ◌++◌, length, drop, refl, ap, sym, subst, arith, length-drop}
use Rattle.std.proofs.lemmas.List.{drop-append-le, nil_from_length}
use Rattle.rtc_gate_calls.specs.Signal.{Signal}
use Rattle.rtc_gate_calls.specs.SignalStream.{SignalFront, Unfinished, Malformed, Arrived, SignalSplit, signal_front, is_malformed_front, split_with, split_up_to, split_of, signals_in, tail_of, is_malformed, IsCutAnywhere}
use Rattle.rtc_gate_calls.proofs.FrontLemmas.{front_nil, front_arrived, front_malformed}

-- what is left behind a frame is shorter
shorter : (x : List ℕ) (m : ℕ) (s : Signal) (n : ℕ) → signal_front x ≡ Arrived s n → length x ≤ suc m → length (drop n x) ≤ m
shorter x m s n is most =
    let known = front_arrived x [] s n is in
    simp length-drop (omega (arith, known.1, known.2))

-- splits that go on alike behind the front are one
same_split : (front : SignalFront) (x : List ℕ) (f g : List ℕ → SignalSplit) → ((s : Signal) (n : ℕ) → front ≡ Arrived s n → f (drop n x) ≡ g (drop n x)) → split_with front x f ≡ split_with front x g
same_split Unfinished x f g same = refl
same_split Malformed x f g same = refl
same_split (Arrived s n) x f g same =
    let onto : SignalSplit → SignalSplit = λ next. record { signals = s ∷ next.signals; tail = next.tail } in
    ap onto (same s n refl)

empty_split : (m : ℕ) → split_up_to m [] ≡ record { signals = []; tail = [] }
unfolding split_up_to
empty_split zero = refl
empty_split (suc m) = ap (λ (front : SignalFront). split_with front [] (split_up_to m)) front_nil

-- any number of frames that is at least that of the bytes will do
enough : (m k : ℕ) (x : List ℕ) → length x ≤ m → length x ≤ k → split_up_to m x ≡ split_up_to k x
unfolding split_up_to
enough zero k x h h' =
    let none : x ≡ [] = nil_from_length x (omega arith) in
    ap (split_up_to zero) none ∙ sym (empty_split k) ∙ ap (split_up_to k) (sym none)
enough (suc m) zero x h h' =
    let none : x ≡ [] = nil_from_length x (omega arith) in
    ap (split_up_to (suc m)) none ∙ empty_split (suc m) ∙ ap (split_up_to zero) (sym none)
enough (suc m) (suc k) x h h' =
    same_split (signal_front x) x (split_up_to m) (split_up_to k) (λ s n is. enough m k (drop n x) (shorter x m s n is h) (shorter x k s n is h'))

up_to_step : (m : ℕ) (x : List ℕ) → length x ≤ m → split_up_to m x ≡ split_with (signal_front x) x split_of
unfolding split_up_to
up_to_step zero x h =
    let none : x ≡ [] = nil_from_length x (omega arith) in
    let back : split_with (signal_front []) [] split_of ≡ record { signals = []; tail = [] } = ap (λ (front : SignalFront). split_with front [] split_of) front_nil in
    ap (split_up_to zero) none ∙ sym back ∙ ap (λ (y : List ℕ). split_with (signal_front y) y split_of) (sym none)
up_to_step (suc m) x h =
    same_split (signal_front x) x (split_up_to m) split_of (λ s n is. enough m (length (drop n x)) (drop n x) (shorter x m s n is h) (omega arith))

-- a stream is what its front is, and then what is left is split
pub split_step : (x : List ℕ) → split_of x ≡ split_with (signal_front x) x split_of
split_step x = up_to_step (length x) x (omega arith)

-- where the front is no whole frame, nothing is split off
pub split_stops : (x : List ℕ) → ((s : Signal) (n : ℕ) → signal_front x ≡ Arrived s n → ⊥) → split_of x ≡ record { signals = []; tail = x }
split_stops x stops = split_step x ∙ go (signal_front x) refl
  where
    go : (front : SignalFront) → signal_front x ≡ front → split_with front x split_of ≡ record { signals = []; tail = x }
    go Unfinished is = refl
    go Malformed is = refl
    go (Arrived s n) is = absurd (stops s n is)

pub split_goes_on : (x : List ℕ) (s : Signal) (n : ℕ) → signal_front x ≡ Arrived s n → split_of x ≡ record { signals = s ∷ signals_in (drop n x); tail = tail_of (drop n x) }
split_goes_on x s n is = split_step x ∙ ap (λ (front : SignalFront). split_with front x split_of) is

signals : SignalSplit → List Signal
signals split = split.signals

-- a stream whose front is no whole frame
stopped : (x y : List ℕ) → split_of x ≡ record { signals = []; tail = x } → IsCutAnywhere x y
stopped x y is =
    let none : signals_in x ≡ [] = ap (λ (split : SignalSplit). split.signals) is in
    let all : tail_of x ≡ x = ap (λ (split : SignalSplit). split.tail) is in
    record {
      signals = ap (λ (z : List ℕ). signals_in (z ++ y)) (sym all) ∙ ap (λ (ss : List Signal). ss ++ signals_in (tail_of x ++ y)) (sym none);
      tail = ap (λ (z : List ℕ). tail_of (z ++ y)) (sym all);
    }

-- one that begins with a frame, where what is left may be cut
gone_on : (x y : List ℕ) (s : Signal) (n : ℕ) → signal_front x ≡ Arrived s n → IsCutAnywhere (drop n x) y → IsCutAnywhere x y
gone_on x y s n is rest =
    let known = front_arrived x y s n is in
    let left : drop n (x ++ y) ≡ drop n x ++ y = drop-append-le n x y known.1 in
    let whole = split_goes_on (x ++ y) s n known.0 in
    let front = split_goes_on x s n is in
    let tails : tail_of x ≡ tail_of (drop n x) = ap (λ (split : SignalSplit). split.tail) front in
    let heads : signals_in x ≡ s ∷ signals_in (drop n x) = ap (λ (split : SignalSplit). split.signals) front in
    record {
      signals =
          ap (λ (split : SignalSplit). split.signals) whole
          ∙ ap (λ (z : List ℕ). s ∷ signals_in z) left
          ∙ ap (λ (ss : List Signal). s ∷ ss) rest.signals
          ∙ ap (λ (ss : List Signal). ss ++ signals_in (tail_of (drop n x) ++ y)) (sym heads)
          ∙ ap (λ (z : List ℕ). signals_in x ++ signals_in (z ++ y)) (sym tails);
      tail =
          ap (λ (split : SignalSplit). split.tail) whole
          ∙ ap (λ (z : List ℕ). tail_of z) left
          ∙ rest.tail
          ∙ ap (λ (z : List ℕ). tail_of (z ++ y)) (sym tails);
    }

cut : (m : ℕ) (x y : List ℕ) → length x ≤ m → IsCutAnywhere x y
cut zero x y h =
    let none : x ≡ [] = nil_from_length x (omega arith) in
    stopped x y (subst (λ (z : List ℕ). split_of z ≡ record { signals = []; tail = z }) (sym none) (empty_split zero))
cut (suc m) x y h = go (signal_front x) refl (λ s n is. cut m (drop n x) y (shorter x m s n is h))
  where
    go : (front : SignalFront) → signal_front x ≡ front → ((s : Signal) (n : ℕ) → signal_front x ≡ Arrived s n → IsCutAnywhere (drop n x) y) → IsCutAnywhere x y
    go Unfinished is later = stopped x y (split_step x ∙ ap (λ (front : SignalFront). split_with front x split_of) is)
    go Malformed is later = stopped x y (split_step x ∙ ap (λ (front : SignalFront). split_with front x split_of) is)
    go (Arrived s n) is later = gone_on x y s n is (later s n is)

pub cut_anywhere : (x y : List ℕ) → IsCutAnywhere x y
cut_anywhere x y = cut (length x) x y (omega arith)

malformed_front : (front : SignalFront) → is_malformed_front front ≡ true → front ≡ Malformed
malformed_front Unfinished is = absurd (cc)
malformed_front Malformed is = refl
malformed_front (Arrived s n) is = absurd (cc)

-- behind what may not come in, nothing is split off however the stream goes on
pub malformed_stays : (x y : List ℕ) → is_malformed x ≡ true → (signals_in (tail_of x ++ y) ≡ []) × (tail_of (tail_of x ++ y) ≡ tail_of x ++ y) × (is_malformed (x ++ y) ≡ true)
malformed_stays x y is =
    let front : signal_front (tail_of x ++ y) ≡ Malformed = front_malformed (tail_of x) y (malformed_front (signal_front (tail_of x)) is) in
    let stops : split_of (tail_of x ++ y) ≡ record { signals = []; tail = tail_of x ++ y } = split_step (tail_of x ++ y) ∙ ap (λ (front : SignalFront). split_with front (tail_of x ++ y) split_of) front in
    let tails : tail_of (tail_of x ++ y) ≡ tail_of x ++ y = ap (λ (split : SignalSplit). split.tail) stops in
    let all : tail_of (x ++ y) ≡ tail_of x ++ y = (cut_anywhere x y).tail ∙ tails in
    (ap (λ (split : SignalSplit). split.signals) stops, tails, ap (λ (z : List ℕ). is_malformed_front (signal_front z)) all ∙ ap is_malformed_front front)

tail_within : (m : ℕ) (x : List ℕ) → length x ≤ m → length (tail_of x) ≤ length x
tail_within zero x h =
    let none : x ≡ [] = nil_from_length x (omega arith) in
    let all : tail_of x ≡ x = ap (λ (split : SignalSplit). split.tail) (subst (λ (z : List ℕ). split_of z ≡ record { signals = []; tail = z }) (sym none) (empty_split zero)) in
    omega (arith, ap length all)
tail_within (suc m) x h = go (signal_front x) refl (λ s n is. tail_within m (drop n x) (shorter x m s n is h))
  where
    go : (front : SignalFront) → signal_front x ≡ front → ((s : Signal) (n : ℕ) → signal_front x ≡ Arrived s n → length (tail_of (drop n x)) ≤ length (drop n x)) → length (tail_of x) ≤ length x
    go Unfinished is later = omega (arith, ap (λ (split : SignalSplit). length split.tail) (split_step x ∙ ap (λ (front : SignalFront). split_with front x split_of) is))
    go Malformed is later = omega (arith, ap (λ (split : SignalSplit). length split.tail) (split_step x ∙ ap (λ (front : SignalFront). split_with front x split_of) is))
    go (Arrived s n) is later = omega (arith, ap (λ (split : SignalSplit). length split.tail) (split_goes_on x s n is), later s n is, length-drop n x)

-- what follows the frames is no longer than the stream
pub tail_short : (x : List ℕ) → length (tail_of x) ≤ length x
tail_short x = tail_within (length x) x (omega arith)
