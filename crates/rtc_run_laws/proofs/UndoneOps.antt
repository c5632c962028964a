-- Rows that ops changed and that are undone are the rows from before the ops.
use Rattle.std.proofs.Common.{◌≡◌, ◌+◌, ◌==◌, ◌||◌, ◌∙◌, ℕ, zero, suc, Bool, true, false, cond, List, [], ◌∷◌, Option, Some, refl, sym, ap, subst, arith}
use Rattle.std.specs.Prelude.{slice_get}
use Rattle.std.proofs.lemmas.Bool.{eq-eqb}
use Rattle.rtc_sdp_values.specs.Direction.{same_direction}
use Rattle.rtc_sdp_values.specs.declared.direction.Direction.{Direction}
use Rattle.rtc_sdp_values.specs.declared.line_row.LineRow.{LineRow}
use Rattle.rtc_sdp_values.specs.declared.line_row.LineRow.TheVariants.{Media, App}
use Rattle.rtc_peer_rows.specs.RowChanges.{RowChange, changed_at, directed_row, row_after_change, stopped_row}
use Rattle.rtc_peer_core.specs.Sources.{is_number}
use Rattle.rtc_run_history.specs.Sound.{Midway, OpsAnswered, having_channel, having_rows, holding_mid}
use Rattle.rtc_run_history.specs.Undone.{places_changed, row_undone, rows_undone}
use Rattle.rtc_run_history.specs.declared.op.Op.{Op}
use Rattle.rtc_run_history.specs.declared.op.Op.TheVariants.{AddMedia, SetDirection, StopMedia, AddChannel, IceRestart}
use Rattle.rtc_run_history.specs.declared.op_answer.OpAnswer.{OpAnswer}
use Rattle.rtc_run_history.specs.declared.op_answer.OpAnswer.TheVariants.{Mid, Changed, NoLine, Channel, BadChannel, Creds, Alloc as OpAlloc}
use Rattle.rtc_run_laws.proofs.PlacedRows.{unchanged_at}
use Rattle.rtc_run_laws.proofs.RowsFollow.{IsLeft, all_left, first_left, next_left}

-- a row that differs from an earlier one in its direction and its mark of being stopped alone
abbrev pub IsTurn : LineRow → LineRow → Type 0
IsTurn row other = row_undone (Some row) other ≡ row

turn_self : (row : LineRow) → IsTurn row row
turn_self (Media place mid kind dir stopped created) = refl
turn_self (App place mid) = refl

turn_trans : (row other third : LineRow) → IsTurn row other → IsTurn other third → IsTurn row third
turn_trans (App place mid) other third first rest =
    let same : other ≡ App place mid = first in
    subst (λ (r : LineRow). IsTurn r third → third ≡ App place mid) (sym same) (λ h. h) rest
turn_trans (Media p m k d s c) (Media p' m' k' d' s' c') (Media p'' m'' k'' d'' s'' c'') first rest =
    let back : ◌≡◌ {A = LineRow} (Media p'' m'' k'' d' s' c'') (Media p' m' k' d' s' c') = rest in
    ap (row_undone (Some (Media p m k d s c))) back ∙ first
turn_trans (Media p m k d s c) (Media p' m' k' d' s' c') (App p'' m'') first rest = absurd (let e : ◌≡◌ {A = LineRow} (App p'' m'') (Media p' m' k' d' s' c') = rest in cc)
turn_trans (Media p m k d s c) (App p' m') third first rest = absurd (let e : ◌≡◌ {A = LineRow} (App p' m') (Media p m k d s c) = first in cc)

-- a change that turns a row
abbrev Turns : RowChange → Type 0
Turns change = (row : LineRow) → IsTurn row (row_after_change change row)

directed_turns : (to : Direction) → Turns (directed_row to)
directed_turns to (Media place mid kind dir true created) = refl
directed_turns to (App place mid) = refl
directed_turns to (Media place mid kind dir false created) = by (same_direction dir to) refl
  where
    by : (same : Bool) → same_direction dir to ≡ same → IsTurn (Media place mid kind dir false created) (row_after_change (directed_row to) (Media place mid kind dir false created))
    by true is = rw is refl
    by false is = rw is refl

stopped_turns : Turns stopped_row
stopped_turns (Media place mid kind dir true created) = refl
stopped_turns (Media place mid kind dir false created) = refl
stopped_turns (App place mid) = refl

-- ---- rows

-- a row is turned, or is the same
abbrev MayTurn : Bool → LineRow → LineRow → Type 0
MayTurn true row other = IsTurn row other
MayTurn false row other = other ≡ row

turned : (may : Bool) (row other : LineRow) → MayTurn may row other → IsTurn row other
turned true row other turn = turn
turned false row other same = subst (λ (r : LineRow). IsTurn row r) (sym same) (turn_self row)

wider : (more may : Bool) (row other : LineRow) → MayTurn may row other → MayTurn (more || may) row other
wider true may row other turn = turned may row other turn
wider false may row other turn = turn

-- rows, at places from this one on, that are turned at these places alone
abbrev AreTurned : List ℕ → ℕ → List LineRow → List LineRow → Type 0
AreTurned places place [] [] = Unit {0}
AreTurned places place (row ∷ rows) (other ∷ others) = MayTurn (is_number place places) row other × AreTurned places (place + 1) rows others
AreTurned places place rows others = ⊥

turned_self : (place : ℕ) (rows : List LineRow) → AreTurned [] place rows rows
turned_self place [] = tt
turned_self place (row ∷ rows) = (refl, turned_self (place + 1) rows)

turned_wider : (p : ℕ) (places : List ℕ) (place : ℕ) (rows others : List LineRow) → AreTurned places place rows others → AreTurned (p ∷ places) place rows others
turned_wider p places place [] [] turn = tt
turned_wider p places place (row ∷ rows) (other ∷ others) turn =
    (wider (p == place) (is_number place places) row other turn.0, turned_wider p places (place + 1) rows others turn.1)
turned_wider p places place [] (other ∷ others) turn = absurd turn
turned_wider p places place (row ∷ rows) [] turn = absurd turn

turned_more : (change : RowChange) → Turns change → (p : ℕ) (places : List ℕ) (place k : ℕ) (rows others : List LineRow) → p ≡ place + k → AreTurned places place (changed_at change k rows) others
    → AreTurned (p ∷ places) place rows others
turned_more change turns p places place k [] [] at turn = tt
turned_more change turns p places place k [] (other ∷ others) at turn = absurd turn
turned_more change turns p places place zero (row ∷ rows) (other ∷ others) at turn =
    let here : (p == place) ≡ true = eq-eqb p place (omega (arith, at)) in (
      subst (λ (b : Bool). MayTurn (b || is_number place places) row other) (sym here)
          (turn_trans row (row_after_change change row) other (turns row) (turned (is_number place places) (row_after_change change row) other turn.0)),
      turned_wider p places (place + 1) rows others turn.1,
    )
turned_more change turns p places place (suc k) (row ∷ rows) (other ∷ others) at turn =
    (wider (p == place) (is_number place places) row other turn.0, turned_more change turns p places (place + 1) k rows others (omega (arith, at)) turn.1)
turned_more change turns p places place zero (row ∷ rows) [] at turn = absurd turn
turned_more change turns p places place (suc k) (row ∷ rows) [] at turn = absurd turn

-- ---- ops

-- ops whose last answer tells that memory ran out
lacked : (m : Midway) (op : Op) (ops : List Op) (after : List LineRow) → after ≡ m.rows → AreTurned (places_changed (op ∷ ops) (OpAlloc ∷ [])) 0 m.rows after
lacked m op ops after same =
    subst (λ (places : List ℕ). AreTurned places 0 m.rows after) (sym (none op ops)) (subst (λ (rows : List LineRow). AreTurned [] 0 m.rows rows) (sym same) (turned_self 0 m.rows))
  where
    rest : (ops : List Op) → places_changed ops [] ≡ []
    rest [] = refl
    rest (op ∷ ops) = refl

    none : (op : Op) (ops : List Op) → places_changed (op ∷ ops) (OpAlloc ∷ []) ≡ []
    none (AddMedia kind dir) ops = rest ops
    none (SetDirection place dir) ops = rest ops
    none (StopMedia place) ops = rest ops
    none (AddChannel config) ops = rest ops
    none (IceRestart keep) ops = rest ops

turned_ops : (m : Midway) (ops : List Op) (answers : List OpAnswer) (after : List LineRow) → OpsAnswered m ops answers after → AreTurned (places_changed ops answers) 0 m.rows after
turned_ops m [] [] after answered = subst (λ (rows : List LineRow). AreTurned [] 0 m.rows rows) (sym answered) (turned_self 0 m.rows)
turned_ops m (AddMedia kind dir ∷ ops) (Mid mid ∷ answers) after answered = turned_ops (holding_mid mid m) ops answers after answered.1
turned_ops m (AddMedia kind dir ∷ ops) (OpAlloc ∷ []) after answered = lacked m (AddMedia kind dir) ops after answered
turned_ops m (SetDirection place dir ∷ ops) (NoLine ∷ answers) after answered = turned_ops m ops answers after answered.1
turned_ops m (SetDirection place dir ∷ ops) (Changed true ∷ answers) after answered =
    turned_more (directed_row dir) (directed_turns dir) place (places_changed ops answers) 0 place m.rows after (omega arith)
    (turned_ops (having_rows (changed_at (directed_row dir) place m.rows) m) ops answers after answered.1)
turned_ops m (SetDirection place dir ∷ ops) (Changed false ∷ answers) after answered =
    subst (λ (rows : List LineRow). AreTurned (places_changed ops answers) 0 rows after) (unchanged_at (directed_row dir) place m.rows (sym answered.0.1))
    (turned_ops (having_rows (changed_at (directed_row dir) place m.rows) m) ops answers after answered.1)
turned_ops m (SetDirection place dir ∷ ops) (OpAlloc ∷ []) after answered = lacked m (SetDirection place dir) ops after answered
turned_ops m (StopMedia place ∷ ops) (NoLine ∷ answers) after answered = turned_ops m ops answers after answered.1
turned_ops m (StopMedia place ∷ ops) (Changed true ∷ answers) after answered =
    turned_more stopped_row stopped_turns place (places_changed ops answers) 0 place m.rows after (omega arith)
    (turned_ops (having_rows (changed_at stopped_row place m.rows) m) ops answers after answered.1)
turned_ops m (StopMedia place ∷ ops) (Changed false ∷ answers) after answered =
    subst (λ (rows : List LineRow). AreTurned (places_changed ops answers) 0 rows after) (unchanged_at stopped_row place m.rows (sym answered.0.1))
    (turned_ops (having_rows (changed_at stopped_row place m.rows) m) ops answers after answered.1)
turned_ops m (StopMedia place ∷ ops) (OpAlloc ∷ []) after answered = lacked m (StopMedia place) ops after answered
turned_ops m (AddChannel config ∷ ops) (Channel id ∷ answers) after answered = turned_ops (having_channel id config m) ops answers after answered.2
turned_ops m (AddChannel config ∷ ops) (BadChannel ∷ answers) after answered = turned_ops m ops answers after answered.1
turned_ops m (AddChannel config ∷ ops) (OpAlloc ∷ []) after answered = lacked m (AddChannel config) ops after answered
turned_ops m (IceRestart keep ∷ ops) (Creds creds ∷ answers) after answered = turned_ops m ops answers after answered
turned_ops m (IceRestart keep ∷ ops) (OpAlloc ∷ []) after answered = lacked m (IceRestart keep) ops after answered
turned_ops m ops answers after answered = absurd answered

-- ---- what is undone

undone_back : (places : List ℕ) (place : ℕ) (earlier left rows : List LineRow) → IsLeft earlier place left → AreTurned places place left rows → rows_undone places place earlier rows ≡ left
undone_back places place earlier [] [] at turn = refl
undone_back places place earlier (row ∷ left) (other ∷ rows) at turn =
    let there : slice_get earlier place ≡ Some row = first_left earlier place (row ∷ left) at in
    ap (λ (rest : List LineRow). cond (is_number place places) (row_undone (slice_get earlier place) other) other ∷ rest)
    (undone_back places (place + 1) earlier left rows (next_left earlier place row left at) turn.1)
    ∙ ap (λ (first : LineRow). first ∷ left) (ap (λ (found : Option LineRow). cond (is_number place places) (row_undone found other) other) there ∙ by (is_number place places) turn.0)
  where
    by : (here : Bool) → MayTurn here row other → cond here (row_undone (Some row) other) other ≡ row
    by true turn = turn
    by false same = same
undone_back places place earlier [] (other ∷ rows) at turn = absurd turn
undone_back places place earlier (row ∷ left) [] at turn = absurd turn

-- The rows that ops leave, where those at the places that they changed are undone, are the rows from before.
pub undone_ops : (m : Midway) (ops : List Op) (answers : List OpAnswer) (after : List LineRow) → OpsAnswered m ops answers after → rows_undone (places_changed ops answers) 0 m.rows after ≡ m.rows
undone_ops m ops answers after answered = undone_back (places_changed ops answers) 0 m.rows m.rows after (all_left m.rows) (turned_ops m ops answers after answered)
