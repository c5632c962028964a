-- A stream that comes in two pieces is read as one that comes in one.
use Rattle.std.proofs.Common.{◌≡◌, ℕ, ◌+◌, ◌≤◌, ◌∙◌, Bool, true, false, List, [], ◌++◌, length, drop, refl, ap, sym, cond, arith, length-append, append_assoc}
use Rattle.std.proofs.Math.Seq.{drop-append_seam}
use Rattle.rtc_gate_calls.specs.Signal.{Signal}
use Rattle.rtc_gate_calls.specs.SignalStream.{signals_in, tail_of, is_malformed, is_malformed_front, signal_front}
use Rattle.rtc_gate_calls.proofs.SplitLemmas.{cut_anywhere, malformed_stays, tail_short}
use Rattle.rtc_gate_calls.specs.GateState.{Incoming, started, whole_size, incoming_behind, resumed, arriving}
use Rattle.rtc_gate_calls.specs.History.{newly_whole}

-- a stream by its three fields
abbrev pub incoming_of : ℕ → List ℕ → Bool → Incoming
incoming_of done kept stuck = record { done = done; kept = kept; stuck = stuck }

incoming_alike : (done done' : ℕ) (kept kept' : List ℕ) (stuck stuck' : Bool) → done ≡ done' → kept ≡ kept' → stuck ≡ stuck' → incoming_of done kept stuck ≡ incoming_of done' kept' stuck'
incoming_alike done done' kept kept' stuck stuck' d k s =
    ap (λ (n : ℕ). incoming_of n kept stuck) d ∙ ap (λ (x : List ℕ). incoming_of done' x stuck) k ∙ ap (incoming_of done' kept') s

-- bytes behind what may not come in change nothing
behind_malformed : (done : ℕ) (x y : List ℕ) → is_malformed x ≡ true → incoming_behind done x ≡ incoming_behind done (x ++ y)
behind_malformed done x y bad =
    let stays = malformed_stays x y bad in
    let tails : tail_of (x ++ y) ≡ tail_of x ++ y = (cut_anywhere x y).tail ∙ stays.1 in
    let count : length (tail_of (x ++ y)) ≡ length (tail_of x) + length y = ap length tails ∙ length-append (tail_of x) y in
    let whole : length (x ++ y) ≡ length x + length y = length-append x y in
    let size : whole_size x ≡ whole_size (x ++ y) = let short : length (tail_of x) ≤ length x = tail_short x in omega arith in
    let none : cond (is_malformed x) [] (tail_of x) ≡ cond (is_malformed (x ++ y)) [] (tail_of (x ++ y)) =
    ap (λ (b : Bool). cond b [] (tail_of x)) bad ∙ sym (ap (λ (b : Bool). cond b [] (tail_of (x ++ y))) stays.2) in
    incoming_alike (done + whole_size x) (done + whole_size (x ++ y)) _ _ _ _ (ap (λ (n : ℕ). done + n) size) none (bad ∙ sym stays.2)

-- and behind what is not finished they are read with it
behind_unfinished : (done : ℕ) (x y : List ℕ) → incoming_behind (done + whole_size x) (tail_of x ++ y) ≡ incoming_behind done (x ++ y)
behind_unfinished done x y =
    let tails : tail_of (tail_of x ++ y) ≡ tail_of (x ++ y) = sym (cut_anywhere x y).tail in
    let bad : is_malformed (tail_of x ++ y) ≡ is_malformed (x ++ y) = ap (λ (z : List ℕ). is_malformed_front (signal_front z)) tails in
    let count : length (tail_of (tail_of x ++ y)) ≡ length (tail_of (x ++ y)) = ap length tails in
    let whole : length (x ++ y) ≡ length x + length y = length-append x y in
    let left : length (tail_of x ++ y) ≡ length (tail_of x) + length y = length-append (tail_of x) y in
    let short : length (tail_of x) ≤ length x = tail_short x in
    let short' : length (tail_of (tail_of x ++ y)) ≤ length (tail_of x ++ y) = tail_short (tail_of x ++ y) in
    let size : done + whole_size x + whole_size (tail_of x ++ y) ≡ done + whole_size (x ++ y) = omega arith in
    let kept : cond (is_malformed (tail_of x ++ y)) [] (tail_of (tail_of x ++ y)) ≡ cond (is_malformed (x ++ y)) [] (tail_of (x ++ y)) =
    ap (λ (b : Bool). cond b [] (tail_of (tail_of x ++ y))) bad ∙ ap (λ (z : List ℕ). cond (is_malformed (x ++ y)) [] z) tails in
    incoming_alike (done + whole_size x + whole_size (tail_of x ++ y)) (done + whole_size (x ++ y)) _ _ _ _ size kept bad

resumed_by : (done : ℕ) (kept : List ℕ) (stuck : Bool) (p q : List ℕ) → resumed (resumed (incoming_of done kept stuck) p) q ≡ resumed (incoming_of done kept stuck) (p ++ q)
resumed_by done kept true p q = refl
resumed_by done kept false p q = go (is_malformed (kept ++ p)) refl ∙ ap (incoming_behind done) (append_assoc kept p q)
  where
    go : (bad : Bool) → is_malformed (kept ++ p) ≡ bad → resumed (incoming_behind done (kept ++ p)) q ≡ incoming_behind done ((kept ++ p) ++ q)
    go true bad =
        ap (λ (b : Bool). cond b (incoming_behind done (kept ++ p)) (incoming_behind (done + whole_size (kept ++ p)) (cond (is_malformed (kept ++ p)) [] (tail_of (kept ++ p)) ++ q))) bad
        ∙ behind_malformed done (kept ++ p) q bad
    go false bad =
        ap (λ (b : Bool). cond b (incoming_behind done (kept ++ p)) (incoming_behind (done + whole_size (kept ++ p)) (cond b [] (tail_of (kept ++ p)) ++ q))) bad
        ∙ behind_unfinished done (kept ++ p) q

-- a stream that comes in two pieces
pub resumed_twice : (i : Incoming) (p q : List ℕ) → resumed (resumed i p) q ≡ resumed i (p ++ q)
resumed_twice i p q = resumed_by i.done i.kept i.stuck p q

arriving_by : (done : ℕ) (kept : List ℕ) (stuck : Bool) (p q : List ℕ) → arriving (incoming_of done kept stuck) p ++ arriving (resumed (incoming_of done kept stuck) p) q ≡ arriving (incoming_of done kept stuck) (p ++ q)
arriving_by done kept true p q = refl
arriving_by done kept false p q =
    let x : List ℕ = kept ++ p in
    go (is_malformed x) refl ∙ sym (cut_anywhere x q).signals ∙ ap signals_in (append_assoc kept p q)
  where
    go : (bad : Bool) → is_malformed (kept ++ p) ≡ bad → signals_in (kept ++ p) ++ arriving (incoming_behind done (kept ++ p)) q ≡ signals_in (kept ++ p) ++ signals_in (tail_of (kept ++ p) ++ q)
    go true bad =
        ap (λ (b : Bool). signals_in (kept ++ p) ++ cond b [] (signals_in (cond (is_malformed (kept ++ p)) [] (tail_of (kept ++ p)) ++ q))) bad
        ∙ ap (λ (ss : List Signal). signals_in (kept ++ p) ++ ss) (sym (malformed_stays (kept ++ p) q bad).0)
    go false bad = ap (λ (b : Bool). signals_in (kept ++ p) ++ cond b [] (signals_in (cond b [] (tail_of (kept ++ p)) ++ q))) bad

-- and its frames
pub arriving_twice : (i : Incoming) (p q : List ℕ) → arriving i p ++ arriving (resumed i p) q ≡ arriving i (p ++ q)
arriving_twice i p q = arriving_by i.done i.kept i.stuck p q

-- a stream from its first byte
pub stream_resumed : (stream piece : List ℕ) → resumed (incoming_behind 0 stream) piece ≡ incoming_behind 0 (stream ++ piece)
stream_resumed stream piece = resumed_twice started stream piece

pub stream_arriving : (stream piece : List ℕ) → arriving (incoming_behind 0 stream) piece ≡ newly_whole stream piece
stream_arriving stream piece =
    sym (drop-append_seam (signals_in stream) (arriving (incoming_behind 0 stream) piece)) ∙ ap (drop (length (signals_in stream))) (arriving_twice started stream piece)
