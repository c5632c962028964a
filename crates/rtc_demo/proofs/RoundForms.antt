-- What each round of a demo asks for.
use Rattle.std.proofs.Common.{◌≡◌, ◌*◌, ◌/◌, ◌%◌, ◌<◌, ◌≤◌, ◌==◌, ℕ, zero, suc, Bool, true, false, List, [], ◌∷◌, ◌++◌, length, codes, cond, refl, ap, arith, length-append}
use Rattle.std.specs.Prelude.{nat_lt}
use Rattle.std.specs.Fmt.{decimal}
use Rattle.std.proofs.lemmas.Fmt.{length-decimal-le_succ}
use Rattle.rtc_sdp_values.specs.declared.direction.Direction.{Direction}
use Rattle.rtc_sdp_values.specs.declared.direction.Direction.TheVariants.{SendRecv}
use Rattle.rtc_sdp_values.specs.declared.media_kind.MediaKind.{MediaKind}
use Rattle.rtc_sdp_values.specs.declared.media_kind.MediaKind.TheVariants.{Audio, Video}
use Rattle.rtc_run_history.specs.CourseRows.{do_stop_first, do_add_odd_channel, is_in_band}
use Rattle.rtc_run_history.specs.declared.op.Op.{Op}
use Rattle.rtc_run_history.specs.declared.op.Op.TheVariants.{AddMedia, SetDirection, StopMedia, AddChannel, IceRestart}
use Rattle.rtc_run_history.specs.declared.side.Side.{Side}
use Rattle.rtc_run_history.specs.declared.step.Step.{Step}
use Rattle.rtc_demo.specs.DemoSteps.{scrambled, offerer, direction_numbered, line_added, round_place, round_channel, besides, round_ops, steps_between, round_steps}

-- ops besides an added line, at most one, that are in order in every round
pub record AreFew (ops : List Op) : Type 0 where
  pub first : do_stop_first ops ≡ false
  pub odd : do_add_odd_channel ops ≡ false
  pub few : length ops ≤ 1

-- a round: its side, the line that it adds, and what else it asks for
pub record RoundForm (steps : List Step) (round : ℕ) : Type 0 where
  pub at : Side
  pub kind : MediaKind
  pub dir : Direction
  pub more : List Op
  pub are : steps ≡ steps_between at (AddMedia kind dir ∷ more) (2 * round)
  pub fine : AreFew more

-- a label is short
in_band : (round : ℕ) → round < 100 → is_in_band (round_channel round) ≡ true
in_band round small =
    let label : nat_lt 65535 (length (codes "c" ++ decimal round)) ≡ false = grind (arith, small, length-append (codes "c") (decimal round), length-decimal-le_succ round (omega arith)) in
    rw label refl

no_first : (place : ℕ) → 0 < place → do_stop_first (StopMedia place ∷ []) ≡ false
no_first zero some = absurd (omega arith)
no_first (suc place) some = refl

past_first : (z : ℕ) → 0 < round_place z
unfolding round_place
past_first z = omega arith

besides_few : (n round z : ℕ) → round < 100 → AreFew (besides n round z)
unfolding besides
besides_few n round z small = by (n == 0) (n == 1) (n == 2) (n == 3)
  where
    by : (a b c d : Bool)
        → AreFew (cond a [] (cond b (SetDirection (round_place z) (direction_numbered ((z / 16384) % 4)) ∷ []) (cond c (StopMedia (round_place z) ∷ []) (cond d (AddChannel (round_channel round) ∷ []) (IceRestart true ∷ [])))))
    by true b c d = record { first = refl; odd = refl; few = omega arith }
    by false true c d = record { first = refl; odd = refl; few = omega arith }
    by false false true d = record { first = no_first (round_place z) (past_first z); odd = refl; few = omega arith }
    by false false false true = record { first = refl; odd = rw (in_band round small) refl; few = omega arith }
    by false false false false = record { first = refl; odd = refl; few = omega arith }

-- an op that adds a line
pub record AddsLine (op : Op) : Type 0 where
  pub kind : MediaKind
  pub dir : Direction
  pub is : op ≡ AddMedia kind dir

line_adds : (round z : ℕ) → AddsLine (line_added round z)
unfolding line_added
line_adds round z = by (round == 0)
  where
    more : Op
    more = AddMedia (cond ((z / 2) % 2 == 0) Audio Video) (direction_numbered ((z / 4) % 4))

    by : (b : Bool) → AddsLine (cond b (AddMedia Audio SendRecv) more)
    by true = record { kind = Audio; dir = SendRecv; is = refl }
    by false = record { kind = cond ((z / 2) % 2 == 0) Audio Video; dir = direction_numbered ((z / 4) % 4); is = refl }

pub round_form : (seed round : ℕ) → round < 100 → RoundForm (round_steps seed round) round
unfolding round_steps round_ops
round_form seed round small =
    let z : ℕ = scrambled seed round in
    let line = line_adds round z in
    record {
      at = offerer z;
      kind = line.kind;
      dir = line.dir;
      more = besides ((z / 16) % 5) round z;
      are = ap (λ op. steps_between (offerer z) (op ∷ besides ((z / 16) % 5) round z) (2 * round)) line.is;
      fine = besides_few ((z / 16) % 5) round z small;
    }
