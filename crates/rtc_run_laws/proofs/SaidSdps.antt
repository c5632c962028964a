-- The SDP of rows says these rows, and the rows of an offer have distinct mids.
use Rattle.std.proofs.Common.{◌≡◌, ℕ, Bool, true, false, not, ◌||◌, List, [], ◌∷◌, ◌++◌, map, length, refl, sym, ◌∙◌, ap, subst, cond, append_assoc}
use Rattle.std.specs.Prelude.{filter, None}
use Rattle.std.specs.List.{list_all}
use Rattle.std.specs.Str.{bytes_eq}
use Rattle.std.proofs.lemmas.Slice.Eq.{bytes_eq-Decides}
use Rattle.std.proofs.lemmas.Bool.{and_parts, or_parts, or_from, both_ways, false_from_ne_true}
use Rattle.std.proofs.lemmas.List.Folds.{list_any-append}
use Rattle.rtc_sdp_values.specs.LineRow.{row_mid}
use Rattle.rtc_sdp_values.specs.Sdp.{inconsistency, mids_of, are_grouped, is_none_of}
use Rattle.rtc_sdp_values.specs.declared.line_row.LineRow.{LineRow}
use Rattle.rtc_sdp_values.specs.declared.line_row.LineRow.TheVariants.{Media, App}
use Rattle.rtc_sdp_values.specs.declared.candidate.Candidate.{Candidate}
use Rattle.rtc_sdp_values.specs.declared.media_line.MediaLine.{MediaLine}
use Rattle.rtc_sdp_values.specs.Mids.{is_among, are_distinct}
use Rattle.rtc_peer_rows.specs.ParsedLines.{parsed_line, parsed_lines}
use Rattle.rtc_peer_rows.specs.Table.{Distinct, is_of, has_mid}
use Rattle.rtc_peer_core.specs.declared.line_media.LineMedia.{LineMedia}
use Rattle.rtc_peer_core.specs.declared.sdp_head.SdpHead.{SdpHead}
use Rattle.rtc_peer_core.specs.declared.told_row.ToldRow.{ToldRow}
use Rattle.rtc_peer_core.specs.MadeSdp.{is_stopped, row_line, told_line, row_told, live_mids, with_candidates, sdp_of_rows}
use Rattle.rtc_peer_core.proofs.ToldRows.{mid_of_line}
use Rattle.rtc_run_history.specs.SaidRows.{row_said, are_live}
use Rattle.rtc_run_laws.proofs.AddedRows.{among_mids}

-- ---- what an SDP says of rows

-- a group that names the live rows names no mid that no row has
unnamed : (rows : List LineRow) (mid : List ℕ) → has_mid mid rows ≡ false → is_among (live_mids rows) mid ≡ false
unnamed [] mid none = refl
unnamed (row ∷ rows) mid none =
    let parts = or_parts (is_of mid row) (has_mid mid rows) none in
    by (not (is_stopped row)) parts.0 (unnamed rows mid parts.1)
  where
    by : (live : Bool) → is_of mid row ≡ false → is_among (live_mids rows) mid ≡ false → is_among (map row_mid (cond live (row ∷ filter (λ row. not (is_stopped row)) rows) (filter (λ row. not (is_stopped row)) rows))) mid ≡ false
    by true other rest = rw other rest
    by false other rest = rest

-- the rows before and after one have not its mid
apart : (front : List LineRow) (row : LineRow) (rest : List LineRow) → Distinct (front ++ row ∷ rest) → (has_mid (row_mid row) front ≡ false) × (has_mid (row_mid row) rest ≡ false)
apart [] row rest distinct = (refl, distinct.0)
apart (first ∷ front) row rest distinct =
    let more = apart front row rest distinct.1 in
    let parts = or_parts (has_mid (row_mid first) front) _ (sym (list_any-append (is_of (row_mid first)) front (row ∷ rest)) ∙ distinct.0) in
    let other : bytes_eq (row_mid row) (row_mid first) ≡ false = (or_parts _ _ parts.1).0 in
    (or_from (is_of (row_mid row) first) (has_mid (row_mid row) front) (exchanged (row_mid row) (row_mid first) other) more.0, more.1)
  where
    exchanged : (a b : List ℕ) → bytes_eq a b ≡ false → bytes_eq b a ≡ false
    exchanged a b other = false_from_ne_true (bytes_eq b a) (λ same. both_ways (bytes_eq a b) other ((bytes_eq-Decides a b).1 (sym ((bytes_eq-Decides b a).0 same))))

live_mids-append : (front rows : List LineRow) → live_mids (front ++ rows) ≡ live_mids front ++ live_mids rows
live_mids-append [] rows = refl
live_mids-append (row ∷ front) rows = by (not (is_stopped row)) (live_mids-append front rows)
  where
    by : (live : Bool) → live_mids (front ++ rows) ≡ live_mids front ++ live_mids rows
        → map row_mid (cond live (row ∷ filter (λ row. not (is_stopped row)) (front ++ rows)) (filter (λ row. not (is_stopped row)) (front ++ rows)))
        ≡ map row_mid (cond live (row ∷ filter (λ row. not (is_stopped row)) front) (filter (λ row. not (is_stopped row)) front)) ++ live_mids rows
    by true same = ap (λ mids. row_mid row ∷ mids) same
    by false same = same

-- a stopped row is named by no group
stopped_unnamed : (front : List LineRow) (row : LineRow) (rest : List LineRow) → Distinct (front ++ row ∷ rest) → is_stopped row ≡ true → is_among (live_mids (front ++ row ∷ rest)) (row_mid row) ≡ false
stopped_unnamed front row rest distinct stopped =
    let parts = apart front row rest distinct in
    let after : live_mids (row ∷ rest) ≡ live_mids rest = rw stopped refl in
    rw (live_mids-append front (row ∷ rest), after, list_any-append (λ named. bytes_eq named (row_mid row)) (live_mids front) (live_mids rest))
    (or_from _ _ (unnamed front (row_mid row) parts.0) (unnamed rest (row_mid row) parts.1))

-- the line of a row says it, where no group names the row if it is stopped
line_says : (head : SdpHead) (group : List (List ℕ)) (media : LineMedia) (row : LineRow) → (is_stopped row ≡ true → is_among group (row_mid row) ≡ false)
    → parsed_line (group ∷ []) (row_line head media row) ≡ row_said row
line_says head group media (App place mid) unnamed = refl
line_says head group media (Media place mid kind dir false remote_created) unnamed = refl
line_says head group media (Media place mid kind dir true remote_created) unnamed = rw (unnamed refl) refl

rows_say : (head : SdpHead) (all front : List LineRow) (told : List ToldRow) → all ≡ front ++ map row_told told → Distinct all
    → map (parsed_line (live_mids all ∷ [])) (map (told_line head) told) ≡ map row_said (map row_told told)
rows_say head all front [] is distinct = refl
rows_say head all front (one ∷ told) is distinct =
    let row : LineRow = one.row in
    let rows : List LineRow = map row_told told in
    let first : parsed_line (live_mids all ∷ []) (row_line head one.media row) ≡ row_said row =
    line_says head (live_mids all) one.media row (λ stopped. rw is (stopped_unnamed front row rows (subst Distinct is distinct) stopped)) in
    let rest = rows_say head all (front ++ row ∷ []) told (is ∙ sym (append_assoc front (row ∷ []) rows)) distinct in
    cons_same first rest
  where
    cons_same : {A : Type 0} {x y : A} {xs ys : List A} → x ≡ y → xs ≡ ys → x ∷ xs ≡ y ∷ ys
    cons_same same rest = cc

-- candidates change nothing of what lines say
pub parsed_with : (groups : List (List (List ℕ))) (candidates : List Candidate) (lines : List MediaLine) → map (parsed_line groups) (with_candidates candidates lines) ≡ map (parsed_line groups) lines
parsed_with groups candidates [] = refl
parsed_with groups candidates (line ∷ lines) = refl

pub length-with : (candidates : List Candidate) (lines : List MediaLine) → length (with_candidates candidates lines) ≡ length lines
length-with candidates [] = refl
length-with candidates (line ∷ lines) = refl

mids_with : (candidates : List Candidate) (lines : List MediaLine) → mids_of (with_candidates candidates lines) ≡ mids_of lines
mids_with candidates [] = refl
mids_with candidates (line ∷ lines) = refl

grouped_with : (group : List (List ℕ)) (candidates : List Candidate) (lines : List MediaLine) → are_grouped group (with_candidates candidates lines) ≡ are_grouped group lines
grouped_with group candidates [] = refl
grouped_with group candidates (line ∷ lines) = refl

-- the SDP of rows with distinct mids says them
pub sdp_says : (head : SdpHead) (told : List ToldRow) → Distinct (map row_told told) → parsed_lines (sdp_of_rows head told) ≡ map row_said (map row_told told)
sdp_says head told distinct =
    parsed_with (live_mids (map row_told told) ∷ []) head.candidates (map (told_line head) told)
    ∙ rows_say head (map row_told told) [] told refl distinct

-- ---- an SDP fits together

-- the mids of the lines of rows are the rows'
mids_of_rows : (head : SdpHead) (told : List ToldRow) → mids_of (map (told_line head) told) ≡ map row_mid (map row_told told)
mids_of_rows head [] = refl
mids_of_rows head (one ∷ told) =
    ap (λ (mid : List ℕ). mid ∷ mids_of (map (told_line head) told)) (mid_of_line head one.media one.row)
    ∙ ap (λ (mids : List (List ℕ)). row_mid one.row ∷ mids) (mids_of_rows head told)

distinct_mids : (rows : List LineRow) → Distinct rows → are_distinct (map row_mid rows) ≡ true
distinct_mids [] distinct = refl
distinct_mids (row ∷ rows) distinct =
    let none : is_among (map row_mid rows) (row_mid row) ≡ false = among_mids rows (row_mid row) ∙ distinct.0 in
    rw none (distinct_mids rows distinct.1)

some_live : (rows : List LineRow) → are_live rows ≡ true → is_none_of (live_mids rows) ≡ false
some_live [] live = absurd (cc)
some_live (row ∷ rows) live = by (not (is_stopped row)) live (some_live rows)
  where
    by : (here : Bool) → (here || are_live rows) ≡ true → (are_live rows ≡ true → is_none_of (live_mids rows) ≡ false)
        → is_none_of (map row_mid (cond here (row ∷ filter (λ row. not (is_stopped row)) rows) (filter (λ row. not (is_stopped row)) rows))) ≡ false
    by true live rest = refl
    by false live rest = rest live

-- names that are among some are among more
still_among : (more : List (List ℕ)) (name first : List ℕ) → is_among more name ≡ true → is_among (first ∷ more) name ≡ true
still_among more name first among = either (bytes_eq first name) among
  where
    either : {b : Bool} → (a : Bool) → b ≡ true → (a || b) ≡ true
    either true is = refl
    either false is = is

among_itself : (more : List (List ℕ)) (name : List ℕ) → is_among (name ∷ more) name ≡ true
among_itself more name = rw ((bytes_eq-Decides name name).1 refl) refl

all_among : (group names : List (List ℕ)) (first : List ℕ) → list_all (λ mid. is_among names mid) group ≡ true → list_all (λ mid. is_among (first ∷ names) mid) group ≡ true
all_among [] names first all = refl
all_among (mid ∷ group) names first all =
    let parts = and_parts (is_among names mid) (list_all (λ mid. is_among names mid) group) all in
    rw (still_among names mid first parts.0, all_among group names first parts.1) refl

-- each live mid is that of a row
live_known : (rows : List LineRow) → list_all (λ mid. is_among (map row_mid rows) mid) (live_mids rows) ≡ true
live_known [] = refl
live_known (row ∷ rows) = by (not (is_stopped row)) (all_among (live_mids rows) (map row_mid rows) (row_mid row) (live_known rows))
  where
    by : (here : Bool) → list_all (λ mid. is_among (row_mid row ∷ map row_mid rows) mid) (live_mids rows) ≡ true
        → list_all (λ mid. is_among (row_mid row ∷ map row_mid rows) mid) (map row_mid (cond here (row ∷ filter (λ row. not (is_stopped row)) rows) (filter (λ row. not (is_stopped row)) rows))) ≡ true
    by true rest = rw (among_itself (map row_mid rows) (row_mid row), rest) refl
    by false rest = rest

-- each row is stopped or its mid is a live one
abbrev AreGrouped : List (List ℕ) → List LineRow → Type 0
AreGrouped group [] = Unit {0}
AreGrouped group (row ∷ rows) = ((is_stopped row || is_among group (row_mid row)) ≡ true) × AreGrouped group rows

grouped_more : (group : List (List ℕ)) (first : List ℕ) (rows : List LineRow) → AreGrouped group rows → AreGrouped (first ∷ group) rows
grouped_more group first [] grouped = tt
grouped_more group first (row ∷ rows) grouped = (by (is_stopped row) grouped.0, grouped_more group first rows grouped.1)
  where
    by : (stopped : Bool) → (stopped || is_among group (row_mid row)) ≡ true → (stopped || is_among (first ∷ group) (row_mid row)) ≡ true
    by true is = refl
    by false is = still_among group (row_mid row) first is

rows_grouped : (rows : List LineRow) → AreGrouped (live_mids rows) rows
rows_grouped [] = tt
rows_grouped (row ∷ rows) = by (is_stopped row) (rows_grouped rows)
  where
    by : (stopped : Bool) → AreGrouped (live_mids rows) rows
        → ((stopped || is_among (map row_mid (cond (not stopped) (row ∷ filter (λ row. not (is_stopped row)) rows) (filter (λ row. not (is_stopped row)) rows))) (row_mid row)) ≡ true)
        × AreGrouped (map row_mid (cond (not stopped) (row ∷ filter (λ row. not (is_stopped row)) rows) (filter (λ row. not (is_stopped row)) rows))) rows
    by true rest = (refl, rest)
    by false rest = (among_itself (live_mids rows) (row_mid row), grouped_more (live_mids rows) (row_mid row) rows rest)

disabled_of_line : (head : SdpHead) (media : LineMedia) (row : LineRow) → (row_line head media row).disabled ≡ is_stopped row
disabled_of_line head media (Media place mid kind dir stopped remote_created) = refl
disabled_of_line head media (App place mid) = refl

lines_grouped : (head : SdpHead) (group : List (List ℕ)) (told : List ToldRow) → AreGrouped group (map row_told told) → are_grouped group (map (told_line head) told) ≡ true
lines_grouped head group [] grouped = refl
lines_grouped head group (one ∷ told) grouped =
    rw (disabled_of_line head one.media one.row, mid_of_line head one.media one.row, grouped.0, lines_grouped head group told grouped.1) refl

-- the SDP of rows with distinct mids, one of which is live, fits together
pub sdp_fits : (head : SdpHead) (told : List ToldRow) → Distinct (map row_told told) → are_live (map row_told told) ≡ true → inconsistency (sdp_of_rows head told) ≡ None
unfolding inconsistency
sdp_fits head told distinct live =
    let rows : List LineRow = map row_told told in
    rw (some_live rows live, mids_with head.candidates (map (told_line head) told), grouped_with (live_mids rows) head.candidates (map (told_line head) told), mids_of_rows head told, live_known rows, lines_grouped head (live_mids rows) told (rows_grouped rows), distinct_mids rows distinct) refl
