-- Which line of a text is refused.
use Rattle.std.proofs.Common.{◌≡◌, ◌≢◌, ◌+◌, ◌-◌, ◌^◌, ◌≤◌, ◌<◌, ◌∙◌, ℕ, zero, suc, List, [], ◌∷◌, ◌++◌, length, take, min, refl, ap, sym, subst, add-one, length-append, lit<, arith, Bor}
use Rattle.std.proofs.Math.Seq.{take-length}
use Rattle.std.proofs.lemmas.List.{take-append-le, length-map}
use Rattle.rtc_room.specs.RoomScript.{HaveRoomLines, AreRoomPieces, BeginsRoomScript, AreRefusedRoomPieces, room_header}
use Rattle.rtc_room.specs.RoomScript.{StopsAtRoomLine}
use Rattle.rtc_room.specs.declared.room_script_error.RoomScriptError.TheVariants.{Line}
use Rattle.rtc_room.specs.RoomLines.{IsRoomLine}
use Rattle.rtc_room.proofs.ZipLemmas.{texts, front_zip}
use Rattle.rtc_room_laws.specs.declared.room_step.RoomStep.{RoomStep}

-- a shorter front of a front is a front
front_of_front : (k j : ℕ) (xs : List (List ℕ)) → k ≤ j → take k (take j xs) ≡ take k xs
front_of_front zero j xs le = refl
front_of_front (suc k) zero xs le = absurd (omega arith)
front_of_front (suc k) (suc j) [] le = refl
front_of_front (suc k) (suc j) (x ∷ xs) le = ap (λ (rest : List (List ℕ)). x ∷ rest) (front_of_front k j xs (omega arith))

-- what stands in front of the last one is all that is not last
front_is : (lines other : List (List ℕ)) (end : List ℕ) → lines ++ end ∷ [] ≡ other ++ [] ∷ [] → (lines ≡ other) × (end ≡ [])
front_is [] [] end same = (refl, cc)
front_is [] (o ∷ []) end same = absurd cc
front_is [] (o ∷ p ∷ other) end same = absurd cc
front_is (l ∷ []) [] end same = absurd cc
front_is (l ∷ m ∷ lines) [] end same = absurd cc
front_is (l ∷ lines) (o ∷ other) end same =
    let rest : lines ++ end ∷ [] ≡ other ++ [] ∷ [] = cc in
    let h = front_is lines other end rest in
    let first : l ≡ o = cc in
    let both = h.0 in
    (cc, h.1)

-- a script may begin with the header and lines of steps, as many as there are
begins : (rest : List (List ℕ)) (end : List ℕ) (j : ℕ) (steps : List RoomStep) → j ≤ length rest → HaveRoomLines (take j rest) steps → (k : ℕ) → k < suc (suc j) → BeginsRoomScript (room_header ∷ rest ++ end ∷ []) k
begins rest end j steps le are zero lt = (omega (arith, length-append rest (end ∷ [])), ([], refl))
begins rest end j steps le are (suc k) lt =
    let front : take k (take j rest) ≡ take k (rest ++ end ∷ []) = front_of_front k j rest (omega arith) ∙ sym (take-append-le k rest (end ∷ []) (omega arith)) in
    let P : List (List ℕ) → Type 0 = λ lines. HaveRoomLines lines (take k steps) in
    (omega (arith, length-append rest (end ∷ [])), (take k steps, (refl, subst P front (front_zip IsRoomLine k (take j rest) steps are))))

-- and with no line that is of no step
begins_no_more : (rest : List (List ℕ)) (end : List ℕ) (place : ℕ) → place < length rest → ((steps : List RoomStep) → HaveRoomLines (take (suc place) rest) steps → ⊥) → BeginsRoomScript (room_header ∷ rest ++ end ∷ []) (suc (suc place)) → ⊥
begins_no_more rest end place lt none begins =
    let front : take (suc place) (rest ++ end ∷ []) ≡ take (suc place) rest = take-append-le (suc place) rest (end ∷ []) (omega arith) in
    let P : List (List ℕ) → Type 0 = λ lines. HaveRoomLines lines begins.1.0 in
    none begins.1.0 (subst P front begins.1.1.1)

-- a text without a line is refused at line 1
pub no_first_line : (end : List ℕ) → AreRefusedRoomPieces (end ∷ []) (Line 1)
no_first_line end = (
  λ steps are. no_script are.0 are.1,
  (1, ((λ k lt. first_line k lt), λ begins. absurd (omega (arith, begins.0))), refl),
)
  where
    no_script : (lines : List (List ℕ)) → end ∷ [] ≡ room_header ∷ lines ++ [] ∷ [] → ⊥
    no_script [] same = cc
    no_script (l ∷ lines) same = cc

    first_line : (k : ℕ) → k < 1 → BeginsRoomScript (end ∷ []) k
    first_line zero lt = (lit< tt, ([], refl))
    first_line (suc k) lt = absurd (omega arith)

-- and so is one whose first line is no header
pub wrong_header : (first : List ℕ) (rest : List (List ℕ)) (end : List ℕ) → first ≢ room_header → AreRefusedRoomPieces (first ∷ rest ++ end ∷ []) (Line 1)
wrong_header first rest end wrong = (
  λ steps are. let same = are.1 in wrong cc,
  (1, ((λ k lt. first_line k lt), λ begins. wrong begins.1.1.0), refl),
)
  where
    first_line : (k : ℕ) → k < 1 → BeginsRoomScript (first ∷ rest ++ end ∷ []) k
    first_line zero lt = (omega arith, ([], refl))
    first_line (suc k) lt = absurd (omega arith)

-- a line that is of no step is refused
pub wrong_call : (rest : List (List ℕ)) (end : List ℕ) (place told : ℕ) → StopsAtRoomLine rest place → told ≡ min (place + 2) (2 ^ 32 - 1) → AreRefusedRoomPieces (room_header ∷ rest ++ end ∷ []) (Line told)
wrong_call rest end place told stops is =
    let none : (steps : List RoomStep) → HaveRoomLines (take (suc place) rest) steps → ⊥ = rw add-one at stops.2 in (
      λ steps are. no_script steps are,
      (
        suc (suc place),
        (
          begins rest end place stops.1.0 (omega (arith, stops.0)) stops.1.1,
          begins_no_more rest end place stops.0 none,
        ),
        omega (arith, is),
      ),
    )
  where
    no_script : (steps : List RoomStep) → AreRoomPieces (room_header ∷ rest ++ end ∷ []) steps → ⊥
    no_script steps are =
        let same : rest ++ end ∷ [] ≡ are.0 ++ [] ∷ [] = let e = are.1 in cc in
        let lines = front_is rest are.0 end same in
        let P : List (List ℕ) → Type 0 = λ lines. HaveRoomLines lines steps in
        stops.2 (take (place + 1) steps) (front_zip IsRoomLine (place + 1) rest steps (subst P (sym lines.0) are.2))

-- a last line without LF is refused
pub unended : (rest : List (List ℕ)) (end : List ℕ) (steps : List RoomStep) (told : ℕ) → HaveRoomLines rest steps → end ≢ [] → told ≡ min (length rest + 2) (2 ^ 32 - 1) → AreRefusedRoomPieces (room_header ∷ rest ++ end ∷ []) (Line told)
unended rest end steps told are more is =
    let P : List (List ℕ) → Type 0 = λ lines. HaveRoomLines lines steps in (
      λ steps are. let same : rest ++ end ∷ [] ≡ are.0 ++ [] ∷ [] = let e = are.1 in cc in more (front_is rest are.0 end same).1,
      (
        suc (suc (length rest)),
        (
          begins rest end (length rest) steps (omega arith) (subst P (sym (take-length rest)) are),
          λ begins. absurd (omega (arith, begins.0, length-append rest (end ∷ []))),
        ),
        omega (arith, is),
      ),
    )

-- the pieces of a text whose first line is the header
cut_is : (lines rest : List (Bor (List ℕ))) (first : Bor (List ℕ)) (end : List ℕ) → lines ≡ first ∷ rest → first.now ≡ room_header → room_header ∷ texts rest ++ end ∷ [] ≡ texts lines ++ end ∷ []
cut_is lines rest first end is head = sym (ap (λ (all : List (Bor (List ℕ))). texts all ++ end ∷ []) is ∙ ap (λ (line : List ℕ). line ∷ texts rest ++ end ∷ []) head)

pub step_refused : (lines rest : List (Bor (List ℕ))) (first : Bor (List ℕ)) (end : List ℕ) (place told : ℕ) → lines ≡ first ∷ rest → first.now ≡ room_header → StopsAtRoomLine (texts rest) place → told ≡ min (place + 2) (2 ^ 32 - 1) → AreRefusedRoomPieces (texts lines ++ end ∷ []) (Line told)
step_refused lines rest first end place told is head stops number =
    let P : List (List ℕ) → Type 0 = λ cut. AreRefusedRoomPieces cut (Line told) in
    subst P (cut_is lines rest first end is head) (wrong_call (texts rest) end place told stops number)

pub end_refused : (lines rest : List (Bor (List ℕ))) (first : Bor (List ℕ)) (end : List ℕ) (steps : List RoomStep) (told : ℕ) → lines ≡ first ∷ rest → first.now ≡ room_header → HaveRoomLines (texts rest) steps → end ≢ [] → told ≡ min (length rest + 2) (2 ^ 32 - 1) → AreRefusedRoomPieces (texts lines ++ end ∷ []) (Line told)
end_refused lines rest first end steps told is head are more number =
    let P : List (List ℕ) → Type 0 = λ cut. AreRefusedRoomPieces cut (Line told) in
    let count : told ≡ min (length (texts rest) + 2) (2 ^ 32 - 1) = rw length-map number in
    subst P (cut_is lines rest first end is head) (unended (texts rest) end steps told are more count)

pub script_read : (lines rest : List (Bor (List ℕ))) (first : Bor (List ℕ)) (end : List ℕ) (steps : List RoomStep) → lines ≡ first ∷ rest → first.now ≡ room_header → HaveRoomLines (texts rest) steps → end ≡ [] → AreRoomPieces (texts lines ++ end ∷ []) steps
script_read lines rest first end steps is head are none =
    (texts rest, sym (cut_is lines rest first end is head) ∙ ap (λ (last : List ℕ). room_header ∷ texts rest ++ last ∷ []) none, are)
