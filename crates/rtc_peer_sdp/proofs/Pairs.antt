-- One more pair of sources.
use Rattle.std.proofs.Common.{◌≡◌, zero, suc, ℕ, List, [], ◌∷◌, ◌++◌, Bool, ◌∙◌, sym, ap, subst, append_assoc, append-nil}
use Rattle.std.specs.List.{flat_map}
use Rattle.rtc_sdp_values.specs.declared.media_kind.MediaKind.{MediaKind}
use Rattle.rtc_sdp_values.specs.declared.media_kind.MediaKind.TheVariants.{Audio, Video}
use Rattle.rtc_parts.specs.Draws.{Draws, Later}
use Rattle.rtc_parts.proofs.LaterLemmas.{later_none, later_once, later_twice, later_join}
use Rattle.rtc_peer_core.specs.Sources.{Pair, pair_numbers, next_pair, next_pairs, after_pair, after_pairs}

pub one_pair : {N : Type 0} (draws : Draws N) (used : ℕ → Bool) (kind : MediaKind) (done : List Pair) (pair : Pair) (earlier later : List ℕ) (left more : ℕ) (ids after : N) (all : List Pair) → left ≡ suc more → pair ≡ next_pair draws used kind earlier ids → later ≡ earlier ++ pair_numbers pair → after ≡ after_pair draws used kind ids → done ++ next_pairs draws used kind earlier left ids ≡ all → (done ++ pair ∷ []) ++ next_pairs draws used kind later more after ≡ all
one_pair draws used kind done pair earlier later left more ids after all left_is pair_is later_is after_is h =
    let inv : done ++ (next_pair draws used kind earlier ids ∷ next_pairs draws used kind (earlier ++ pair_numbers (next_pair draws used kind earlier ids)) more (after_pair draws used kind ids)) ≡ all = rw left_is at h in
    rw (later_is, after_is, pair_is, append_assoc) inv

pub one_draw : {N : Type 0} (draws : Draws N) (used : ℕ → Bool) (kind : MediaKind) (left more : ℕ) (ids after last : N) → left ≡ suc more → after ≡ after_pair draws used kind ids → after_pairs draws used kind left ids ≡ last → after_pairs draws used kind more after ≡ last
one_draw draws used kind left more ids after last left_is after_is h =
    let inv : after_pairs draws used kind more (after_pair draws used kind ids) ≡ last = rw left_is at h in
    rw after_is inv

flat_map_last : (done : List Pair) (pair : Pair) → flat_map pair_numbers (done ++ pair ∷ []) ≡ flat_map pair_numbers done ++ pair_numbers pair
flat_map_last [] pair = append-nil (pair_numbers pair)
flat_map_last (other ∷ done) pair =
    ap (λ (more : List ℕ). pair_numbers other ++ more) (flat_map_last done pair) ∙ sym (append_assoc (pair_numbers other) (flat_map pair_numbers done) (pair_numbers pair))

-- the numbers of one pair more
pub one_more_pair : (first earlier : List ℕ) (done : List Pair) (pair : Pair) → earlier ≡ first ++ flat_map pair_numbers done
    → earlier ++ pair_numbers pair ≡ first ++ flat_map pair_numbers (done ++ pair ∷ [])
one_more_pair first earlier done pair is =
    ap (λ (numbers : List ℕ). numbers ++ pair_numbers pair) is ∙ append_assoc first (flat_map pair_numbers done) (pair_numbers pair)
    ∙ ap (λ (numbers : List ℕ). first ++ numbers) (sym (flat_map_last done pair))

-- ---- how many numbers are drawn at most

-- none, one or two
pub ruleset few_draws = (later_none, later_once, later_twice)

-- nothing is drawn between equal sources of numbers
pub later_same : {N : Type 0} (draws : Draws N) (ids ids' : N) → ids ≡ ids' → Later draws ids ids'
later_same {N} draws ids ids' is = subst (λ (x : N). Later draws ids x) is (later_none draws ids)

after_pair_later : {N : Type 0} (draws : Draws N) (used : ℕ → Bool) (kind : MediaKind) (ids : N) → Later draws ids (after_pair draws used kind ids)
after_pair_later draws used Audio ids = later_once draws ids
after_pair_later draws used Video ids = later_twice draws ids

pub after_pairs_later : {N : Type 0} (draws : Draws N) (used : ℕ → Bool) (kind : MediaKind) (count : ℕ) (ids : N) → Later draws ids (after_pairs draws used kind count ids)
after_pairs_later draws used kind zero ids = later_none draws ids
after_pairs_later draws used kind (suc count) ids =
    later_join draws ids (after_pair draws used kind ids) _ (after_pair_later draws used kind ids) (after_pairs_later draws used kind count (after_pair draws used kind ids))

-- where memory lacks at a pair, no more numbers were drawn than for all pairs
pub most_pairs : {N : Type 0} (draws : Draws N) (used : ℕ → Bool) (kind : MediaKind) (left more : ℕ) (ids stopped last : N) → left ≡ suc more
    → Later draws stopped (after_pair draws used kind ids) → after_pairs draws used kind left ids ≡ last → Later draws stopped last
most_pairs {N} draws used kind left more ids stopped last left_is most h =
    let all : after_pairs draws used kind more (after_pair draws used kind ids) ≡ last = rw left_is at h in
    subst (λ (x : N). Later draws stopped x) all
    (later_join draws stopped (after_pair draws used kind ids) _ most (after_pairs_later draws used kind more (after_pair draws used kind ids)))
