-- The round of one audio line, as a past: its answer is the offer's own, and it ends the round.
use Rattle.std.proofs.Common.{◌≡◌, true, false, List, [], ◌∷◌, Some, refl, inr}
use Rattle.std.specs.Prelude.{codes}
use Rattle.rtc_sdp_values.specs.declared.direction.Direction.TheVariants.{SendRecv}
use Rattle.rtc_sdp_values.specs.declared.line_row.LineRow.TheVariants.{Media}
use Rattle.rtc_sdp_values.specs.declared.media_kind.MediaKind.TheVariants.{Audio}
use Rattle.rtc_run_history.specs.declared.side.Side.TheVariants.{Left, Right}
use Rattle.rtc_run_history.specs.declared.op.Op.TheVariants.{AddMedia}
use Rattle.rtc_run_history.specs.declared.op_answer.OpAnswer.TheVariants.{Mid}
use Rattle.rtc_run_history.specs.declared.made.Made.TheVariants.{Offer}
use Rattle.rtc_run_history.specs.declared.step.Step.TheVariants.{Negotiate, AcceptOffer}
use Rattle.rtc_run_history.specs.declared.outcome.Outcome.TheVariants.{Negotiated, Answered}
use Rattle.rtc_run_history.specs.Past.{Entry, MadeSdp, is_right}
use Rattle.rtc_run_history.specs.Rounds.{is_own, has_set, EndsRound}

abbrev offered : List MadeSdp → Entry (Unit {0})
offered made = record {
  step = Negotiate Left (AddMedia Audio SendRecv ∷ []) true;
  outcome = Negotiated (Mid (codes "m3") ∷ []) (Offer 0);
  table = Some (record { lines = []; channels = [] });
  made = made;
}

abbrev answered : List MadeSdp → Entry (Unit {0})
answered made = record {
  step = AcceptOffer Right 0;
  outcome = Answered 1;
  table = Some (record { lines = Media 0 (codes "m3") Audio SendRecv false true ∷ []; channels = [] });
  made = made;
}

abbrev round : List MadeSdp → List MadeSdp → List (Entry (Unit {0}))
round offer answer = answered answer ∷ offered offer ∷ []

answer_is_own : (offer answer : List MadeSdp) → is_own Left 0 1 (round offer answer) ≡ true
answer_is_own offer answer = refl

nothing_set : (offer answer : List MadeSdp) → has_set Left 0 (round offer answer) ≡ false
nothing_set offer answer = refl

token_right : (offer answer : List MadeSdp) → is_right Left 0 (round offer answer) ≡ true
token_right offer answer = refl

-- the answer of another number is not its own, nor is it the answer to another offer
other_answer : (offer answer : List MadeSdp) → is_own Left 0 2 (round offer answer) ≡ false
other_answer offer answer = refl

other_offer : (offer answer : List MadeSdp) → is_own Left 1 1 (round offer answer) ≡ false
other_offer offer answer = refl

round_ends : (offer answer : List MadeSdp) → EndsRound Left 0 1 (round offer answer) (Media 0 (codes "m3") Audio SendRecv false false ∷ [])
round_ends offer answer = record { agreed = (refl, tt); equal = ((refl, refl), tt); mirrored = (inr (refl, refl, refl), tt) }

-- it does not end with no row at the offerer
no_row_left : (offer answer : List MadeSdp) → EndsRound Left 0 1 (round offer answer) [] → ⊥
no_row_left offer answer ends = ends.agreed
