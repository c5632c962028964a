-- Each row of an explanation, put behind the rows in front of it, with what the lines that are left give.
use Rattle.std.proofs.Common.{◌≡◌, ◌<◌, ℕ, ◌+◌, Bool, true, false, cond, List, [], ◌++◌, ◌∷◌, length, get_or, drop, drop-cons, add-one, sym, ap, ◌∙◌, append_assoc, arith}
use Rattle.std.proofs.lemmas.List.{append-nil, drop_all}
use Rattle.rtc_sdp_grammar.specs.ItemForm.{item_of}
use Rattle.rtc_sdp_text.specs.declared.walk.Walk.{Walk}
use Rattle.rtc_sdp_text.specs.Explanation.{is_refused_here, item_row, walk_over, end_row, rows_from}

line_at : (ls : List (List ℕ)) (k : ℕ) (line : List ℕ) → (k < length ls) × (line ≡ get_or ls k line) → drop k ls ≡ line ∷ drop (k + 1) ls
line_at ls k line h = let cons : drop k ls ≡ get_or ls k line ∷ drop (k + 1) ls = rw add-one (drop-cons ls k line h.0) in cons ∙ ap (λ (l : List ℕ). l ∷ drop (k + 1) ls) (sym h.1)

-- the rows from a line on: its row, and those behind it unless it refuses the text
split : (out : List ℕ) (walk : Walk) (ls : List (List ℕ)) (k : ℕ) (line : List ℕ) (total : List ℕ) (refused : Bool) → (k < length ls) × (line ≡ get_or ls k line) → is_refused_here walk.left ≡ refused → out ++ rows_from walk (drop k ls) ≡ total
    → (out ++ item_row walk line (item_of line)) ++ cond refused [] (rows_from (walk_over walk (item_of line)) (drop (k + 1) ls)) ≡ total
split out walk ls k line total refused at here h =
    let row : List ℕ = item_row walk line (item_of line) in
    let behind : List ℕ = rows_from (walk_over walk (item_of line)) (drop (k + 1) ls) in
    append_assoc out row (cond refused [] behind)
    ∙ ap (λ (b : Bool). out ++ (row ++ cond b [] behind)) (sym here)
    ∙ ap (λ (lines : List (List ℕ)). out ++ rows_from walk lines) (sym (line_at ls k line at))
    ∙ h

-- a line that does not refuse the text
pub goes_on : (out put : List ℕ) (walk later : Walk) (ls : List (List ℕ)) (k : ℕ) (line : List ℕ) (total : List ℕ) → (k < length ls) × (line ≡ get_or ls k line) → is_refused_here walk.left ≡ false → out ++ rows_from walk (drop k ls) ≡ total
    → put ≡ out ++ item_row walk line (item_of line) → later ≡ walk_over walk (item_of line) → put ++ rows_from later (drop (k + 1) ls) ≡ total
goes_on out put walk later ls k line total at here h put_is later_is =
    ap (λ (front : List ℕ). front ++ rows_from later (drop (k + 1) ls)) put_is
    ∙ ap (λ (w : Walk). (out ++ item_row walk line (item_of line)) ++ rows_from w (drop (k + 1) ls)) later_is
    ∙ split out walk ls k line total false at here h

-- the line that refuses it
pub ends_here : (out put : List ℕ) (walk : Walk) (ls : List (List ℕ)) (k : ℕ) (line : List ℕ) (total : List ℕ) → (k < length ls) × (line ≡ get_or ls k line) → is_refused_here walk.left ≡ true → out ++ rows_from walk (drop k ls) ≡ total → put ≡ out ++ item_row walk line (item_of line) → put ≡ total
ends_here out put walk ls k line total at here h put_is = put_is ∙ sym (append-nil (out ++ item_row walk line (item_of line))) ∙ split out walk ls k line total true at here h

-- no line is left
pub ends_behind : (out put : List ℕ) (walk : Walk) (ls : List (List ℕ)) (k : ℕ) (total : List ℕ) → k ≡ length ls → out ++ rows_from walk (drop k ls) ≡ total → put ≡ out ++ end_row walk.left → put ≡ total
ends_behind out put walk ls k total e h put_is = put_is ∙ ap (λ (lines : List (List ℕ)). out ++ rows_from walk lines) (sym (drop_all k ls (omega arith))) ∙ h
