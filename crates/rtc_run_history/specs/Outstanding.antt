-- Whether an offer of a side is pending, read from the past.
use Rattle.std.specs.Prelude.{ℕ, Bool, false, not, List, [], ◌∷◌, if◌then◌else◌, Option, Some, None}
use Rattle.rtc_run_history.specs.declared.side.Side.{Side}
use Rattle.rtc_run_history.specs.declared.made.Made.{Made}
use Rattle.rtc_run_history.specs.declared.made.Made.TheVariants.{NotAsked, Nothing, Offer, Alloc as MadeAlloc}
use Rattle.rtc_run_history.specs.declared.outcome.Outcome.{Outcome}
use Rattle.rtc_run_history.specs.declared.outcome.Outcome.TheVariants.{Negotiated, Answered, Finished, Done, Wrote, Polled, Refused}
use Rattle.rtc_run_history.specs.declared.outcome.Outcome.TheVariants.{NoSuch, Alloc}
use Rattle.rtc_run_history.specs.Past.{Entry, moves, is_spent}

-- the number of the offer that a step made, if it made one
abbrev pub offer_made_by : Made → Option ℕ
offer_made_by NotAsked = None
offer_made_by Nothing = None
offer_made_by (Offer k) = Some k
offer_made_by MadeAlloc = None

abbrev pub offer_made : {E : Type 0} → Outcome E → Option ℕ
offer_made (Negotiated answers made) = offer_made_by made
offer_made (Answered k) = None
offer_made Finished = None
offer_made Done = None
offer_made (Wrote taken) = None
offer_made (Polled outputs end) = None
offer_made (Refused error) = None
offer_made NoSuch = None
offer_made Alloc = None

-- the one offer of a side that is right, if any: that which it made by the last step that moved it
abbrev pub right_offer : {E : Type 0} → Side → List (Entry E) → Option ℕ
right_offer at [] = None
right_offer at (entry ∷ past) = if moves at entry.step entry.outcome then offer_made entry.outcome else right_offer at past

abbrev pub is_unspent : {E : Type 0} → Option ℕ → List (Entry E) → Bool
is_unspent None past = false
is_unspent (Some t) past = not (is_spent t past)

-- whether a side made an offer that is right, and whose token was given neither with an answer nor to roll it back
abbrev pub has_outstanding : {E : Type 0} → Side → List (Entry E) → Bool
has_outstanding at past = is_unspent (right_offer at past) past
