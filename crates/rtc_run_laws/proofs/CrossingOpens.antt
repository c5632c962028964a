-- Sides that may cross wait for their offers, as they are in step.
use Rattle.std.specs.List.{list_any}
use Rattle.std.proofs.Common.{◌≡◌, ℕ, true, false, List, [], ◌∷◌, Some}
use Rattle.rtc_sdp_values.specs.declared.line_row.LineRow.{LineRow}
use Rattle.rtc_sdp_values.specs.declared.line_row.LineRow.TheVariants.{Media, App}
use Rattle.rtc_peer_rows.specs.Table.{IsTable, OneApp, is_app}
use Rattle.rtc_run_history.specs.Finished.{Equal}
use Rattle.rtc_run_history.specs.Orderly.{AreInStep, AreJoined, mid_of_app}
use Rattle.rtc_run_history.specs.Past.{Entry, before}
use Rattle.rtc_run_history.specs.Sides.{other_side}
use Rattle.rtc_run_history.specs.declared.side.Side.{Side}
use Rattle.rtc_run_history.specs.declared.side.Side.TheVariants.{Left, Right}
use Rattle.rtc_run_laws.specs.Crossed.{MayCross}
use Rattle.rtc_run_laws.proofs.CrossingStates.{Waiting}
use Rattle.rtc_run_laws.proofs.Courses.{aligned_at}
use Rattle.rtc_run_laws.proofs.RowNames.{Aligned}
use Rattle.rtc_run_laws.proofs.StanceSteps.{PairStance}
use Rattle.rtc_run_laws.proofs.StartHalves.{joined_sym}

-- equal rows without a line of data channels have the same names
media_aligned : (rows others : List LineRow) → list_any is_app rows ≡ false → Equal rows others → Aligned rows others
media_aligned [] [] none same = tt
media_aligned (Media place mid kind dir stopped created ∷ rows) (Media place' mid' kind' dir' stopped' created' ∷ others) none same =
    ((same.0.0, same.0.1), media_aligned rows others none same.1)
media_aligned (Media place mid kind dir stopped created ∷ rows) (App place' mid' ∷ others) none same = absurd same.0
media_aligned (App place mid ∷ rows) others none same = absurd (let e : true ≡ false = none in cc)
media_aligned [] (other ∷ others) none same = absurd same
media_aligned (Media place mid kind dir stopped created ∷ rows) [] none same = absurd same

some_mid : (mid mid' : List ℕ) → Some mid' ≡ Some mid → mid' ≡ mid
some_mid mid mid' same = cc

-- equal rows with one mid of the line of data channels have the same names
pub aligned_of : (rows others : List LineRow) → OneApp rows → Equal rows others → mid_of_app others ≡ mid_of_app rows → Aligned rows others
aligned_of [] [] one same app = tt
aligned_of (Media place mid kind dir stopped created ∷ rows) (Media place' mid' kind' dir' stopped' created' ∷ others) one same app =
    ((same.0.0, same.0.1), aligned_of rows others one.1 same.1 app)
aligned_of (App place mid ∷ rows) (App place' mid' ∷ others) one same app = (some_mid mid mid' app, media_aligned rows others one.0 same.1)
aligned_of (Media place mid kind dir stopped created ∷ rows) (App place' mid' ∷ others) one same app = absurd same.0
aligned_of (App place mid ∷ rows) (Media place' mid' kind' dir' stopped' created' ∷ others) one same app = absurd same.0
aligned_of [] (other ∷ others) one same app = absurd same
aligned_of (row ∷ rows) [] one same app = absurd same

joined_each : (pair : PairStance) → AreJoined (pair.sides Left).snap.started (pair.sides Right).snap.started → (side : Side)
    → AreJoined (pair.sides side).snap.started (pair.sides (other_side side)).snap.started
joined_each pair joined Left = joined
joined_each pair joined Right = joined_sym (pair.sides Left).snap.started (pair.sides Right).snap.started joined

-- What holds of sides that may cross.
pub crossing_opens : {E : Type 0} → (s : Side) (earlier : List (Entry E)) (from : PairStance) → IsTable (before Left earlier) → MayCross s (before Left earlier) (before Right earlier) from.sides
    → Waiting s (before s earlier) earlier from
crossing_opens s earlier from table may =
    let step : AreInStep (before Left earlier) (before Right earlier) from.sides = may.in_step in
    record {
      agreed = record { current = step.current; joined = joined_each from step.joined };
      parted = may.roles;
      alike = aligned_at s earlier (aligned_of (before Left earlier) (before Right earlier) table.one_app step.equal step.app);
    }
