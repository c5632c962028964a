-- The rows that ops set or stop are noted as they were before the step, so that they can be undone.
use Rattle.std.proofs.Common.{◌≡◌, ◌+◌, ◌==◌, ◌||◌, ℕ, zero, suc, Bool, true, false, cond, List, [], ◌∷◌, ◌++◌, Option, Some, None, Ok, refl, sym, ◌∙◌, ap, subst, arith, append-nil, append_assoc}
use Rattle.std.specs.Prelude.{slice_get, is_some}
use Rattle.std.specs.Str.{bytes_eq}
use Rattle.std.proofs.lemmas.Bool.{eq-eqb, eqb-true, or_parts, both_ways, false_from_ne_true}
use Rattle.std.proofs.lemmas.List.{map-append}
use Rattle.std.proofs.lemmas.List.Folds.{list_any-append}
use Rattle.std.proofs.lemmas.Slice.Eq.{bytes_eq-Decides}
use Rattle.rtc_sdp_values.specs.LineRow.{row_place}
use Rattle.rtc_sdp_values.specs.Mids.{is_among}
use Rattle.rtc_sdp_values.specs.declared.direction.Direction.{Direction}
use Rattle.rtc_sdp_values.specs.declared.direction.Direction.TheVariants.{Inactive}
use Rattle.rtc_sdp_values.specs.declared.line_row.LineRow.{LineRow}
use Rattle.rtc_sdp_values.specs.declared.line_row.LineRow.TheVariants.{Media, App}
use Rattle.rtc_sdp_values.specs.declared.media_kind.MediaKind.{MediaKind}
use Rattle.rtc_peer_rows.specs.RowChanges.{RowChange, all_restored, changed_at, changed_of, directed_row, is_changed, media_mid, restored_row, stopped_row}
use Rattle.rtc_peer_rows.specs.Table.{IsTable, Rising, row_of}
use Rattle.rtc_peer_rows.proofs.RowChangeLemmas.{AreAlike, KeepsRow, alike_self, changed_of_alike, directed_row_keeps, stopped_row_keeps, table_alike}
use Rattle.rtc_peer_core.specs.Calls.{noted_of}
use Rattle.rtc_peer_core.specs.Sources.{is_number}
use Rattle.rtc_peer_core.specs.Stance.{Stance}
use Rattle.rtc_peer_core.specs.Undo.{RowBefore, undo_mids}
use Rattle.rtc_peer_core.proofs.StanceCalls.{StanceChangesLine}
use Rattle.rtc_run_history.specs.declared.op.Op.{Op}
use Rattle.rtc_run_history.specs.declared.op.Op.TheVariants.{AddMedia, SetDirection, StopMedia, AddChannel, IceRestart}
use Rattle.rtc_run_history.specs.declared.op_answer.OpAnswer.{OpAnswer}
use Rattle.rtc_run_history.specs.declared.op_answer.OpAnswer.TheVariants.{Mid, Changed, NoLine, Channel, BadChannel as NoChannel, Creds, Alloc as OpAlloc}
use Rattle.rtc_run_history.specs.Performs.{CallsLine}
use Rattle.rtc_run_history.specs.Undone.{places_changed, rows_undone}
use Rattle.rtc_run_laws.proofs.PlacedRows.{IsPlaced, placed}
use Rattle.rtc_run_laws.proofs.UndoneRows.{alike_on, mid_alike, undone_alike, undone_same, none_undone, number_more, undone_more, restored-append, changed_elsewhere}
use Rattle.rtc_run_laws.proofs.StanceSteps.{StancePerformsOps}

-- What is noted of the rows that were there first, where those at these places were changed.
pub record IsNoting (first : List LineRow) (places : List ℕ) (p : Stance) : Type 0 where
  pub alike : AreAlike first p.lines
  pub untouched : (k : ℕ) → is_number k places ≡ false → slice_get p.lines k ≡ slice_get first k
  pub notes : (k : ℕ) (mid : List ℕ) → media_mid (slice_get first k) ≡ Some mid → is_among (undo_mids p.undo) mid ≡ is_number k places
  pub undone : (rows : List LineRow) → AreAlike first rows → all_restored p.undo rows ≡ rows_undone places 0 first rows

pub notes_none : (p : Stance) → p.undo ≡ [] → IsNoting p.lines [] p
notes_none p none = record {
  alike = alike_self p.lines;
  untouched = λ k other. refl;
  notes = λ k mid there. ap (λ (undo : List RowBefore). is_among (undo_mids undo) mid) none;
  undone = λ rows alike. ap (λ (undo : List RowBefore). all_restored undo rows) none ∙ sym (none_undone 0 p.lines rows);
}

notes_same : (first : List LineRow) (places : List ℕ) (p r : Stance) → r.lines ≡ p.lines → r.undo ≡ p.undo → IsNoting first places p → IsNoting first places r
notes_same first places p r lines undo noting = record {
  alike = subst (λ (rows : List LineRow). AreAlike first rows) (sym lines) noting.alike;
  untouched = λ k other. ap (λ (rows : List LineRow). slice_get rows k) lines ∙ noting.untouched k other;
  notes = λ k mid there. ap (λ (notes : List RowBefore). is_among (undo_mids notes) mid) undo ∙ noting.notes k mid there;
  undone = λ rows alike. ap (λ (notes : List RowBefore). all_restored notes rows) undo ∙ noting.undone rows alike;
}

-- ---- the row of a mid, by its place

place_of : (n k : ℕ) (rows : List LineRow) (row : LineRow) → Rising n rows → slice_get rows k ≡ Some row → row_place row ≡ n + k
place_of n k [] row rising there = absurd (let e : None ≡ Some row = there in cc)
place_of n zero (first ∷ rows) row rising there =
    let same : first ≡ row = (let e : Some first ≡ Some row = there in cc) in sym (ap row_place same) ∙ rising.0 ∙ (let e : n ≡ n + 0 = omega arith in e)
place_of n (suc k) (first ∷ rows) row rising there =
    place_of (n + 1) k rows row rising.1 there ∙ (let e : n + 1 + k ≡ n + suc k = omega arith in e)

-- the two media rows of mids at two places are one where the mids are
mids_apart : (rows : List LineRow) (place k : ℕ) (mid other : List ℕ) → IsTable rows → media_mid (slice_get rows place) ≡ Some mid → media_mid (slice_get rows k) ≡ Some other
    → bytes_eq mid other ≡ (place == k)
mids_apart rows place k mid other table here there = by (place == k) refl
  where
    one_mid : (n : ℕ) → n ≡ k → media_mid (slice_get rows n) ≡ Some mid → mid ≡ other
    one_mid n same at = let e : Some mid ≡ Some other = sym at ∙ ap (λ (i : ℕ). media_mid (slice_get rows i)) same ∙ there in cc

    there_is : (found : Option LineRow) (one : List ℕ) → media_mid found ≡ Some one → (row : LineRow) × (found ≡ Some row)
    there_is None one e = absurd (let f : None ≡ Some one = e in cc)
    there_is (Some row) one e = (row, refl)

    one_place : mid ≡ other → place ≡ k
    one_place same =
        let first = (placed stopped_row place mid rows table.distinct here).found in
        let second = (placed stopped_row k other rows table.distinct there).found in
        let both : slice_get rows place ≡ slice_get rows k = sym first ∙ ap (row_of rows) same ∙ second in
        let row = there_is (slice_get rows place) mid here in
        let at : row_place row.0 ≡ 0 + place = place_of 0 place rows row.0 table.rising row.1 in
        let at' : row_place row.0 ≡ 0 + k = place_of 0 k rows row.0 table.rising (sym both ∙ row.1) in
        omega (arith, at, at')

    by : (b : Bool) → (place == k) ≡ b → bytes_eq mid other ≡ b
    by true is = (bytes_eq-Decides mid other).1 (one_mid place (eqb-true place k is) here)
    by false is = false_from_ne_true (bytes_eq mid other) (λ same. both_ways (place == k) is (eq-eqb place k (one_place ((bytes_eq-Decides mid other).0 same))))

-- ---- a row that is changed

-- a change of a live media row alone
abbrev ChangesLive : RowChange → Type 0
ChangesLive change = (place : ℕ) (mid : List ℕ) (kind : MediaKind) (dir : Direction) (created : Bool) → change (Media place mid kind dir true created) ≡ None

directed_live : (to : Direction) → ChangesLive (directed_row to)
directed_live to place mid kind dir created = refl

stopped_live : ChangesLive stopped_row
stopped_live place mid kind dir created = refl

-- the row that is found is live
record IsLive (mid : List ℕ) (found : Option LineRow) : Type 0 where
  place : ℕ
  kind : MediaKind
  dir : Direction
  created : Bool
  is : found ≡ Some (Media place mid kind dir false created)

live_found : (change : RowChange) (mid : List ℕ) (found : Option LineRow) → ChangesLive change → media_mid found ≡ Some mid → is_changed change found ≡ true → IsLive mid found
live_found change mid None lives there changed = absurd (let e : None ≡ Some mid = there in cc)
live_found change mid (Some (App place own)) lives there changed = absurd (let e : None ≡ Some mid = there in cc)
live_found change mid (Some (Media place own kind dir true created)) lives there changed =
    absurd (let e : false ≡ true = ap is_some (sym (lives place own kind dir created)) ∙ changed in cc)
live_found change mid (Some (Media place own kind dir false created)) lives there changed =
    let same : own ≡ mid = (let e : Some own ≡ Some mid = there in cc) in
    record { place = place; kind = kind; dir = dir; created = created; is = ap (λ (m : List ℕ). Some (Media place m kind dir false created)) same }

mids-append : (undo : List RowBefore) (was : RowBefore) (mid : List ℕ) → is_among (undo_mids (undo ++ was ∷ [])) mid ≡ (is_among (undo_mids undo) mid || bytes_eq was.0 mid)
mids-append undo was mid =
    ap (λ (mids : List (List ℕ)). is_among mids mid) (map-append (λ (one : RowBefore). one.0) undo (was ∷ []))
    ∙ list_any-append (λ other. bytes_eq other mid) (undo_mids undo) (was.0 ∷ [])
    ∙ ap (λ (b : Bool). is_among (undo_mids undo) mid || b) (or_nothing (bytes_eq was.0 mid))
  where
    or_nothing : (b : Bool) → (b || false) ≡ b
    or_nothing true = refl
    or_nothing false = refl

-- the rows and the notes after a change of the row at a place
record LineNoted (change : RowChange) (place : ℕ) (p r : Stance) : Type 0 where
  mid : List ℕ
  there : media_mid (slice_get p.lines place) ≡ Some mid
  live : IsLive mid (slice_get p.lines place)
  lines : r.lines ≡ changed_at change place p.lines
  alike : AreAlike p.lines r.lines
  undo : r.undo ≡ cond (is_among (undo_mids p.undo) mid) p.undo (p.undo ++ (mid, live.dir, false) ∷ [])

line_noted : (change : RowChange) (to : Direction) (place : ℕ) (p r : Stance) → KeepsRow change → ChangesLive change → IsTable p.lines
    → CallsLine p.lines place (λ mid. StanceChangesLine change to p mid (Ok true) r) → LineNoted change place p r
line_noted change to place p r keeps lives table call =
    let here : IsPlaced change place call.mid p.lines = placed change place call.mid p.lines table.distinct call.there in
    let live : IsLive call.mid (slice_get p.lines place) =
    live_found change call.mid (slice_get p.lines place) lives call.there (ap (is_changed change) (sym here.found) ∙ call.called.0) in
    let lines : r.lines ≡ changed_of change call.mid p.lines = ap (λ q. q.lines) call.called.1 in
    record {
      mid = call.mid;
      there = call.there;
      live = live;
      lines = lines ∙ here.changed;
      alike = subst (λ (rows : List LineRow). AreAlike p.lines rows) (sym lines) (changed_of_alike change keeps call.mid p.lines);
      undo = ap (λ q. q.undo) call.called.1 ∙ ap (λ found. noted_of found p.undo) (here.found ∙ live.is);
    }

-- the places with one more
notes_more : (change : RowChange) (first : List LineRow) (places : List ℕ) (place : ℕ) (p r : Stance) → IsTable first → LineNoted change place p r → IsNoting first places p
    → IsNoting first (places ++ place ∷ []) r
notes_more change first places place p r table line noting = record {
  alike = alike_on first p.lines r.lines noting.alike line.alike;
  untouched = λ k other.
      let parts = or_parts (is_number k places) (place == k) (sym (number_more k place places) ∙ other) in
      ap (λ (rows : List LineRow). slice_get rows k) line.lines ∙ changed_elsewhere change place k p.lines parts.1 ∙ noting.untouched k parts.0;
  notes = λ k mid there. notes_by (is_number place places) refl k mid there ∙ sym (number_more k place places);
  undone = undone_by (is_number place places) refl;
}
  where
    its_mid : media_mid (slice_get first place) ≡ Some line.mid
    its_mid = sym (mid_alike place first p.lines noting.alike) ∙ line.there

    among : is_among (undo_mids p.undo) line.mid ≡ is_number place places
    among = noting.notes place line.mid its_mid

    was : RowBefore
    was = (line.mid, line.live.dir, false)

    -- the row was changed before
    kept : is_number place places ≡ true → r.undo ≡ p.undo
    kept again = line.undo ∙ ap (λ (b : Bool). cond b p.undo (p.undo ++ was ∷ [])) (among ∙ again)

    -- or it is noted
    grown : is_number place places ≡ false → r.undo ≡ p.undo ++ was ∷ []
    grown fresh = line.undo ∙ ap (λ (b : Bool). cond b p.undo (p.undo ++ was ∷ [])) (among ∙ fresh)

    absorbed : (k : ℕ) → is_number place places ≡ true → is_number k places ≡ (is_number k places || (place == k))
    absorbed k again = by (place == k) refl
      where
        by : (b : Bool) → (place == k) ≡ b → is_number k places ≡ (is_number k places || b)
        by true is =
            let there : is_number k places ≡ true = ap (λ (i : ℕ). is_number i places) (sym (eqb-true place k is)) ∙ again in
            ap (λ (b : Bool). b) there ∙ sym (ap (λ (b : Bool). b || true) there)
        by false is = or_none (is_number k places)
          where
            or_none : (b : Bool) → b ≡ (b || false)
            or_none true = refl
            or_none false = refl

    notes_by : (again : Bool) → is_number place places ≡ again → (k : ℕ) (mid : List ℕ) → media_mid (slice_get first k) ≡ Some mid
        → is_among (undo_mids r.undo) mid ≡ (is_number k places || (place == k))
    notes_by true is k mid there =
        ap (λ (undo : List RowBefore). is_among (undo_mids undo) mid) (line.undo ∙ ap (λ (b : Bool). cond b p.undo (p.undo ++ was ∷ [])) (among ∙ is))
        ∙ noting.notes k mid there ∙ absorbed k is
    notes_by false is k mid there =
        ap (λ (undo : List RowBefore). is_among (undo_mids undo) mid) (line.undo ∙ ap (λ (b : Bool). cond b p.undo (p.undo ++ was ∷ [])) (among ∙ is))
        ∙ mids-append p.undo was mid
        ∙ ap (λ (b : Bool). b || bytes_eq line.mid mid) (noting.notes k mid there)
        ∙ ap (λ (b : Bool). is_number k places || b) (mids_apart first place k line.mid mid table its_mid there)

    undone_by : (again : Bool) → is_number place places ≡ again → (rows : List LineRow) → AreAlike first rows
        → all_restored r.undo rows ≡ rows_undone (places ++ place ∷ []) 0 first rows
    undone_by true is rows alike =
        ap (λ (undo : List RowBefore). all_restored undo rows) (line.undo ∙ ap (λ (b : Bool). cond b p.undo (p.undo ++ was ∷ [])) (among ∙ is))
        ∙ noting.undone rows alike
        ∙ sym (undone_same places (places ++ place ∷ []) 0 first rows (λ k above. number_more k place places ∙ sym (absorbed k is)))
    undone_by false is rows alike =
        let before : List LineRow = rows_undone places 0 first rows in
        let alike_before : AreAlike first before = alike_on first rows before alike (undone_alike places 0 first rows) in
        let at : media_mid (slice_get before place) ≡ Some line.mid = mid_alike place first before alike_before ∙ its_mid in
        ap (λ (undo : List RowBefore). all_restored undo rows) (line.undo ∙ ap (λ (b : Bool). cond b p.undo (p.undo ++ was ∷ [])) (among ∙ is))
        ∙ restored-append p.undo was rows
        ∙ ap (changed_of (restored_row line.live.dir false) line.mid) (noting.undone rows alike)
        ∙ (placed (restored_row line.live.dir false) place line.mid before (table_alike first before alike_before table).distinct at).changed
        ∙ undone_more places 0 place place line.live.dir line.live.place line.mid line.live.kind line.live.created first rows (omega arith) is
        (sym (noting.untouched place is) ∙ line.live.is)

-- ---- ops

none_placed : (ops : List Op) → places_changed ops [] ≡ []
none_placed [] = refl
none_placed (op ∷ ops) = refl

-- places behind those before
joined : (first : List LineRow) (places : List ℕ) (place : ℕ) (more : List ℕ) (q : Stance) → IsNoting first ((places ++ place ∷ []) ++ more) q → IsNoting first (places ++ place ∷ more) q
joined first places place more q noting = subst (λ (all : List ℕ). IsNoting first all q) (append_assoc places (place ∷ []) more) noting

lacked : (first : List LineRow) (places : List ℕ) (ops : List Op) (p q : Stance) → q ≡ p → IsNoting first places p → IsNoting first (places ++ places_changed ops []) q
lacked first places ops p q same noting =
    subst (λ (all : List ℕ). IsNoting first (places ++ all) q) (sym (none_placed ops))
    (subst (λ (all : List ℕ). IsNoting first all q) (sym (append-nil places)) (notes_same first places p q (ap (λ s. s.lines) same) (ap (λ s. s.undo) same) noting))

pub ops_note : (first : List LineRow) (places : List ℕ) (p q : Stance) (ops : List Op) (answers : List OpAnswer) → IsTable first → StancePerformsOps p ops answers q → IsNoting first places p
    → IsNoting first (places ++ places_changed ops answers) q
ops_note first places p q [] [] table h noting =
    subst (λ (all : List ℕ). IsNoting first all q) (sym (append-nil places)) (notes_same first places p q (ap (λ s. s.lines) h) (ap (λ s. s.undo) h) noting)
ops_note first places p q (AddMedia kind dir ∷ ops) (Mid mid ∷ answers) table h noting =
    ops_note first places h.0 q ops answers table h.2 (notes_same first places p h.0 (ap (λ s. s.lines) h.1.rest) (ap (λ s. s.undo) h.1.rest) noting)
ops_note first places p q (AddMedia kind dir ∷ ops) (OpAlloc ∷ []) table h noting = lacked first places ops p q h noting
ops_note first places p q (SetDirection place dir ∷ ops) (NoLine ∷ answers) table h noting = ops_note first places p q ops answers table h.1 noting
ops_note first places p q (SetDirection place dir ∷ ops) (Changed true ∷ answers) table h noting =
    joined first places place (places_changed ops answers) q
    (ops_note first (places ++ place ∷ []) h.0 q ops answers table h.2
    (notes_more (directed_row dir) first places place p h.0 table
    (line_noted (directed_row dir) dir place p h.0 (directed_row_keeps dir) (directed_live dir) (table_alike first p.lines noting.alike table) h.1) noting))
ops_note first places p q (SetDirection place dir ∷ ops) (Changed false ∷ answers) table h noting =
    ops_note first places h.0 q ops answers table h.2 (notes_same first places p h.0 (ap (λ s. s.lines) h.1.called.1) (ap (λ s. s.undo) h.1.called.1) noting)
ops_note first places p q (SetDirection place dir ∷ ops) (OpAlloc ∷ []) table h noting = lacked first places ops p q h.called noting
ops_note first places p q (StopMedia place ∷ ops) (NoLine ∷ answers) table h noting = ops_note first places p q ops answers table h.1 noting
ops_note first places p q (StopMedia place ∷ ops) (Changed true ∷ answers) table h noting =
    joined first places place (places_changed ops answers) q
    (ops_note first (places ++ place ∷ []) h.0 q ops answers table h.2
    (notes_more stopped_row first places place p h.0 table
    (line_noted stopped_row Inactive place p h.0 stopped_row_keeps stopped_live (table_alike first p.lines noting.alike table) h.1) noting))
ops_note first places p q (StopMedia place ∷ ops) (Changed false ∷ answers) table h noting =
    ops_note first places h.0 q ops answers table h.2 (notes_same first places p h.0 (ap (λ s. s.lines) h.1.called.1) (ap (λ s. s.undo) h.1.called.1) noting)
ops_note first places p q (StopMedia place ∷ ops) (OpAlloc ∷ []) table h noting = lacked first places ops p q h.called noting
ops_note first places p q (AddChannel config ∷ ops) (Channel id ∷ answers) table h noting =
    ops_note first places h.0 q ops answers table h.2 (notes_same first places p h.0 (ap (λ s. s.lines) h.1.rest) (ap (λ s. s.undo) h.1.rest) noting)
ops_note first places p q (AddChannel config ∷ ops) (NoChannel ∷ answers) table h noting =
    ops_note first places h.0 q ops answers table h.2 (notes_same first places p h.0 (ap (λ s. s.lines) h.1.1) (ap (λ s. s.undo) h.1.1) noting)
ops_note first places p q (AddChannel config ∷ ops) (OpAlloc ∷ []) table h noting = lacked first places ops p q h noting
ops_note first places p q (IceRestart keep ∷ ops) (Creds creds ∷ answers) table h noting =
    ops_note first places h.0 q ops answers table h.2 (notes_same first places p h.0 (ap (λ s. s.lines) h.1.1) (ap (λ s. s.undo) h.1.1) noting)
ops_note first places p q (IceRestart keep ∷ ops) (OpAlloc ∷ []) table h noting = lacked first places ops p q h noting
ops_note first places p q ops answers table h noting = absurd h
