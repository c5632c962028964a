-- Where a sender and a receiver stand within a session, and what one record more does.
use Rattle.std.proofs.Common.{ℕ, suc, ◌≡◌, ◌+◌, ◌-◌, ◌*◌, ◌≤◌, ◌<◌, ◌⊎◌, inl, inr, Bool, true, false, List, [], ◌∷◌, ◌++◌, length, take, drop, min, Option, Some, None, Ok, Err, refl, ◌∙◌, ap, sym, subst, arith, slice_get, ◌==◌, nat_lt, eq-eqb}
use Rattle.std.specs.Prelude.{IfSome}
use Rattle.std.specs.Str.{bytes_eq}
use Rattle.std.proofs.lemmas.Bool.{le-ltb}
use Rattle.std.proofs.lemmas.Bool.Decides.{leb_tells}
use Rattle.std.proofs.lemmas.List.{take_min, take_all, length-take, length-drop}
use Rattle.std.proofs.Math.Seq.{take-add, take-length}
use Rattle.std.specs.Option.{unwrap_or}
use Rattle.std.proofs.lemmas.Option.{none-some}
use Rattle.std.proofs.lemmas.Slice.Eq.{bytes_eq-Decides}
use Rattle.sha2.specs.Sha256.{sha256}
use Rattle.rtc_file_records.specs.declared.announced.Announced.{Announced}
use Rattle.rtc_file_records.specs.declared.file_record.FileRecord.{FileRecord}
use Rattle.rtc_file_records.specs.declared.file_record.FileRecord.TheVariants.{Begin, Piece, End}
use Rattle.rtc_file_records.specs.declared.file_error.FileError.{FileError}
use Rattle.rtc_file_records.specs.declared.file_error.FileError.TheVariants.{Alloc}
use Rattle.rtc_file_records.specs.Receiving.{ReceivedFile, refusal_by, with_record}
use Rattle.rtc_file_records.specs.Sending.{SentFile, piece_count, rest_from, session_from}
use Rattle.rtc_files.specs.Sessions.{SendsRecord, HoldsSession, CanGoOn}
use Rattle.rtc_file_records.proofs.PieceLemmas.{end_left, piece_left}

-- what the receiver knows of the file
abbrev pub Knows : List ℕ → List ℕ → ReceivedFile → Type 0
Knows name file r = (announced : Announced) × (r.announced ≡ Some announced) × (announced.name ≡ name) × (announced.total ≡ length file)

pub record Beginning (name file : List ℕ) (start : ℕ) (s : SentFile) (r : ReceivedFile) : Type 0 where
  pub left : s.left ≡ session_from name start file
  pub announced : IfSome r.announced (λ announced. (announced.name ≡ name) × (announced.total ≡ length file))
  pub begun : r.begun ≡ false
  pub held : r.held ≡ take start file
  pub whole : r.whole ≡ false

-- behind the Begin and so many pieces
pub record Moving (name file : List ℕ) (start count : ℕ) (s : SentFile) (r : ReceivedFile) : Type 0 where
  pub left : s.left ≡ rest_from (length r.held) file
  pub knows : Knows name file r
  pub begun : r.begun ≡ true
  pub held : r.held ≡ take (start + 16384 * count) file
  pub whole : r.whole ≡ false
  pub few : count ≤ piece_count (length file - start)

pub record Ended (name file : List ℕ) (s : SentFile) (r : ReceivedFile) : Type 0 where
  pub left : s.left ≡ []
  pub knows : Knows name file r
  pub held : r.held ≡ file
  pub whole : r.whole ≡ true

-- where both stand behind so many records of a session
abbrev pub InSession : List ℕ → List ℕ → ℕ → ℕ → SentFile → ReceivedFile → Type 0
InSession name file start i s r =
    ((i ≡ 0) × Beginning name file start s r)
    ⊎ ((count : ℕ) × (i ≡ suc count) × Moving name file start count s r)
    ⊎ ((2 + piece_count (length file - start) ≤ i) × Ended name file s r)

-- another piece comes where bytes are left, and none where none is
piece_fits : (size count : ℕ) → 16384 * count < size → suc count ≤ piece_count size
unfolding piece_count
piece_fits size count below = omega arith

pieces_done : (size count : ℕ) → size ≤ 16384 * count → piece_count size ≤ count
unfolding piece_count
pieces_done size count above = omega arith

same_bytes : (xs : List ℕ) → bytes_eq xs xs ≡ true
same_bytes xs = (bytes_eq-Decides xs xs).1 refl

begin_accepted : (announced : Option Announced) (begun whole : Bool) (held name : List ℕ) (total : ℕ) → whole ≡ false → begun ≡ false
    → IfSome announced (λ a. (a.name ≡ name) × (a.total ≡ total))
    → (let file : ReceivedFile = record { announced = announced; begun = begun; held = held; whole = whole } in refusal_by file (Some (Begin name total))) ≡ None
begin_accepted None begun whole held name total whole_is begun_is same = rw (whole_is, begun_is) refl
begin_accepted (Some a) begun whole held name total whole_is begun_is same =
    let number : (a.total == total) ≡ true = eq-eqb a.total total same.1 in
    rw (whole_is, begun_is, same.0, same_bytes name, number) refl

piece_accepted : (announced : Option Announced) (a : Announced) (begun whole : Bool) (held bytes : List ℕ) (offset : ℕ) → announced ≡ Some a → whole ≡ false → begun ≡ true
    → offset ≡ length held → length held + length bytes ≤ a.total
    → (let file : ReceivedFile = record { announced = announced; begun = begun; held = held; whole = whole } in refusal_by file (Some (Piece offset bytes))) ≡ None
piece_accepted announced a begun whole held bytes offset is whole_is begun_is place fits =
    let here : (offset == length held) ≡ true = eq-eqb offset (length held) place in
    let short : (nat_lt a.total (length held + length bytes)) ≡ false = le-ltb a.total (length held + length bytes) fits in
    rw (is, whole_is, begun_is, here, short) refl

end_accepted : (announced : Option Announced) (a : Announced) (begun whole : Bool) (held digest : List ℕ) (total : ℕ) → announced ≡ Some a → whole ≡ false → begun ≡ true
    → a.total ≡ total → total ≤ length held → digest ≡ sha256 held
    → (let file : ReceivedFile = record { announced = announced; begun = begun; held = held; whole = whole } in refusal_by file (Some (End total digest))) ≡ None
end_accepted announced a begun whole held digest total is whole_is begun_is number all hashed =
    let same : (a.total == total) ≡ true = eq-eqb a.total total number in
    let long : (nat_lt (length held) total) ≡ false = le-ltb (length held) total all in
    rw (is, whole_is, begun_is, same, long, hashed, same_bytes (sha256 held)) refl

some_is : {A : Type 0} (x y : A) → Some x ≡ Some y → x ≡ y
some_is {A} x y e = ap (λ (o : Option A). unwrap_or o x) e

-- the record that is sent is the first that was left
first_sent : (s s' : SentFile) (r r' : ReceivedFile) (first : FileRecord) (rest : List FileRecord) → s.left ≡ first ∷ rest → SendsRecord (Ok true) s r s' r'
    → (s'.left ≡ rest) × (r' ≡ with_record r first)
first_sent s s' r r' first rest split sends =
    let same : sends.0 ≡ first = some_is sends.0 first (sym sends.2 ∙ ap (λ (l : List FileRecord). slice_get l 0) split) in
    (ap (λ (x : SentFile). x.left) sends.3 ∙ ap (drop 1) split, sends.4.2 ∙ ap (with_record r) same)

none_sent : (s s' : SentFile) (r r' : ReceivedFile) → s.left ≡ [] → SendsRecord (Ok true) s r s' r' → ⊥
none_sent s s' r r' none sends = none-some sends.0 (sym (ap (λ (l : List FileRecord). slice_get l 0) none) ∙ sends.2)

first_refused : (s s' : SentFile) (r r' : ReceivedFile) (first : FileRecord) (rest : List FileRecord) (why : FileError) → s.left ≡ first ∷ rest → refusal_by r (Some first) ≡ None → SendsRecord (Err why) s r s' r' → why ≡ Alloc
first_refused s s' r r' first rest why split fine (inl lacking) = lacking
first_refused s s' r r' first rest why split fine (inr refused) =
    let same : refused.0 ≡ first = some_is refused.0 first (sym refused.1 ∙ ap (λ (l : List FileRecord). slice_get l 0) split) in
    absurd (none-some why (sym fine ∙ sym (ap (λ (made : FileRecord). refusal_by r (Some made)) same) ∙ refused.2))

none_refused : (s s' : SentFile) (r r' : ReceivedFile) (why : FileError) → s.left ≡ [] → SendsRecord (Err why) s r s' r' → why ≡ Alloc
none_refused s s' r r' why none (inl lacking) = lacking
none_refused s s' r r' why none (inr refused) = absurd (none-some refused.0 (sym (ap (λ (l : List FileRecord). slice_get l 0) none) ∙ refused.1))

-- how many bytes are held
held_count : (r : ReceivedFile) (count : ℕ) (file : List ℕ) → r.held ≡ take count file → length r.held ≡ min count (length file)
held_count r count file is = ap length is ∙ length-take count file

begin_step : (name file : List ℕ) (start : ℕ) (s s' : SentFile) (r r' : ReceivedFile) → start ≤ length file → Beginning name file start s r → SendsRecord (Ok true) s r s' r' → Moving name file start 0 s' r'
begin_step name file start s s' r r' within at sends =
    let went = first_sent s s' r r' (Begin name (length file)) (rest_from start file) at.left sends in
    let held : r'.held ≡ take start file = ap (λ (x : ReceivedFile). x.held) went.1 ∙ at.held in
    let place : start ≡ length r'.held = omega (arith, held_count r' start file held) in
    let none : start ≡ start + 16384 * 0 = omega arith in
    record {
      left = went.0 ∙ ap (λ k. rest_from k file) place;
      knows = (record { name = name; total = length file }, ap (λ (x : ReceivedFile). x.announced) went.1, refl, refl);
      begun = ap (λ (x : ReceivedFile). x.begun) went.1;
      held = held ∙ ap (λ k. take k file) none;
      whole = ap (λ (x : ReceivedFile). x.whole) went.1 ∙ at.whole;
      few = omega arith;
    }

piece_step : (name file : List ℕ) (start count : ℕ) (s s' : SentFile) (r r' : ReceivedFile) → length r.held < length file → Moving name file start count s r → SendsRecord (Ok true) s r s' r' → Moving name file start (suc count) s' r'
piece_step name file start count s s' r r' within at sends =
    let place : length r.held ≡ start + 16384 * count = omega (arith, held_count r (start + 16384 * count) file at.held) in
    let bytes : List ℕ = take 16384 (drop (length r.held) file) in
    let went = first_sent s s' r r' (Piece (length r.held) bytes) (rest_from (length r.held + min (length file - length r.held) 16384) file) (at.left ∙ piece_left (length r.held) file within) sends in
    let more : start + 16384 * suc count ≡ (start + 16384 * count) + 16384 = omega arith in
    let held : r'.held ≡ take (start + 16384 * suc count) file =
    ap (λ (x : ReceivedFile). x.held) went.1 ∙ ap (λ front. front ++ bytes) at.held ∙ ap (λ k. take (start + 16384 * count) file ++ take 16384 (drop k file)) place
    ∙ sym (ap (λ k. take k file) more ∙ take-add (start + 16384 * count) 16384 file) in
    let behind : length r.held + min (length file - length r.held) 16384 ≡ length r'.held = omega (arith, held_count r' (start + 16384 * suc count) file held) in
    record {
      left = went.0 ∙ ap (λ k. rest_from k file) behind;
      knows = (at.knows.0, ap (λ (x : ReceivedFile). x.announced) went.1 ∙ at.knows.1, at.knows.2, at.knows.3);
      begun = ap (λ (x : ReceivedFile). x.begun) went.1 ∙ at.begun;
      held = held;
      whole = ap (λ (x : ReceivedFile). x.whole) went.1 ∙ at.whole;
      few = piece_fits (length file - start) count (omega arith);
    }

all_held : (name file : List ℕ) (start count : ℕ) (s : SentFile) (r : ReceivedFile) → length file ≤ length r.held → Moving name file start count s r → (r.held ≡ file) × (length file ≤ start + 16384 * count)
all_held name file start count s r over at =
    let cover : length file ≤ start + 16384 * count = omega (arith, held_count r (start + 16384 * count) file at.held) in
    (at.held ∙ take_all (start + 16384 * count) file cover, cover)

end_step : (name file : List ℕ) (start count : ℕ) (s s' : SentFile) (r r' : ReceivedFile) → length file ≤ length r.held → Moving name file start count s r → SendsRecord (Ok true) s r s' r'
    → (2 + piece_count (length file - start) ≤ suc (suc count)) × Ended name file s' r'
end_step name file start count s s' r r' over at sends =
    let all = all_held name file start count s r over at in
    let went = first_sent s s' r r' (End (length file) (sha256 file)) [] (at.left ∙ end_left (length r.held) file over) sends in
    let done : piece_count (length file - start) ≤ count = pieces_done (length file - start) count (omega (arith, all.1)) in (
      omega arith,
      record {
        left = went.0;
        knows = (at.knows.0, ap (λ (x : ReceivedFile). x.announced) went.1 ∙ at.knows.1, at.knows.2, at.knows.3);
        held = ap (λ (x : ReceivedFile). x.held) went.1 ∙ all.0;
        whole = ap (λ (x : ReceivedFile). x.whole) went.1;
      },
    )

-- one record more
pub session_step : (name file : List ℕ) (start i : ℕ) (s s' : SentFile) (r r' : ReceivedFile) → start ≤ length file → InSession name file start i s r → SendsRecord (Ok true) s r s' r' → InSession name file start (suc i) s' r'
session_step name file start i s s' r r' within (inl at) sends = inr (inl (0, ap suc at.0, begin_step name file start s s' r r' within at.1 sends))
session_step name file start i s s' r r' within (inr (inl at)) sends =
    elim (leb_tells (suc (length r.held)) (length file)) [
      | inl below ↦ inr (inl (suc at.0, ap suc at.1, piece_step name file start at.0 s s' r r' (omega (arith, below.1)) at.2 sends))
      | inr over ↦ let ended = end_step name file start at.0 s s' r r' (omega (arith, over.1)) at.2 sends in
          inr (inr (omega (arith, ended.0, at.1), ended.1))
    ]
session_step name file start i s s' r r' within (inr (inr at)) sends = absurd (none_sent s s' r r' at.1.left sends)

-- only memory can be lacking
pub session_lacks : (name file : List ℕ) (start i : ℕ) (s s' : SentFile) (r r' : ReceivedFile) (why : FileError) → InSession name file start i s r → SendsRecord (Err why) s r s' r' → why ≡ Alloc
session_lacks name file start i s s' r r' why (inl at) sends =
    first_refused s s' r r' (Begin name (length file)) (rest_from start file) why at.1.left (begin_accepted r.announced r.begun r.whole r.held name (length file) at.1.whole at.1.begun at.1.announced) sends
session_lacks name file start i s s' r r' why (inr (inl at)) sends =
    let m = at.2 in
    elim (leb_tells (suc (length r.held)) (length file)) [
      | inl below ↦
          let within : length r.held < length file = omega (arith, below.1) in
          let bytes : List ℕ = take 16384 (drop (length r.held) file) in
          let fits : length r.held + length bytes ≤ m.knows.0.total = omega (arith, m.knows.3, length-take 16384 (drop (length r.held) file), length-drop (length r.held) file) in
          first_refused s s' r r' (Piece (length r.held) bytes) (rest_from (length r.held + min (length file - length r.held) 16384) file) why (m.left ∙ piece_left (length r.held) file within)
          (piece_accepted r.announced m.knows.0 r.begun r.whole r.held bytes (length r.held) m.knows.1 m.whole m.begun refl fits) sends
      | inr past ↦
          let over : length file ≤ length r.held = omega (arith, past.1) in
          let all = all_held name file start at.0 s r over m in
          first_refused s s' r r' (End (length file) (sha256 file)) [] why (m.left ∙ end_left (length r.held) file over)
          (end_accepted r.announced m.knows.0 r.begun r.whole r.held (sha256 file) (length file) m.knows.1 m.whole m.begun m.knows.3 over (ap sha256 (sym all.0))) sends
    ]
session_lacks name file start i s s' r r' why (inr (inr at)) sends = none_refused s s' r r' why at.1.left sends

-- nothing is left behind the End alone
some_left : (first : FileRecord) (rest left : List FileRecord) → left ≡ first ∷ rest → left ≡ [] → ⊥
some_left first rest left some none = let size : suc (length rest) ≡ 0 = ap length (sym some ∙ none) in omega arith

pub session_stops : (name file : List ℕ) (start i : ℕ) (s : SentFile) (r : ReceivedFile) → InSession name file start i s r → s.left ≡ [] → (2 + piece_count (length file - start) ≤ i) × Ended name file s r
session_stops name file start i s r (inl at) none = absurd (some_left (Begin name (length file)) (rest_from start file) s.left at.1.left none)
session_stops name file start i s r (inr (inl at)) none =
    let m = at.2 in
    elim (leb_tells (suc (length r.held)) (length file)) [
      | inl below ↦ absurd (some_left _ _ s.left (m.left ∙ piece_left (length r.held) file (omega (arith, below.1))) none)
      | inr past ↦ absurd (some_left _ _ s.left (m.left ∙ end_left (length r.held) file (omega (arith, past.1))) none)
    ]
session_stops name file start i s r (inr (inr at)) none = at

-- what a session leaves
covered : (size : ℕ) → size ≤ 16384 * piece_count size
unfolding piece_count
covered size = omega arith

pub session_held : (name file : List ℕ) (start size : ℕ) (s : SentFile) (r : ReceivedFile) → InSession name file start size s r → HoldsSession file start size r
session_held name file start size s r (inl at) =
    let none : start ≡ start + 16384 * (size - 1) = omega (arith, at.0) in
    record { held = at.1.held ∙ ap (λ k. take k file) none; ended = inr (at.1.whole, omega (arith, at.0)) }
session_held name file start size s r (inr (inl at)) =
    let count : start + 16384 * at.0 ≡ start + 16384 * (size - 1) = omega (arith, at.1) in
    record { held = at.2.held ∙ ap (λ k. take k file) count; ended = inr (at.2.whole, omega (arith, at.1, at.2.few)) }
session_held name file start size s r (inr (inr at)) =
    let all : length file ≤ start + 16384 * (size - 1) = omega (arith, at.0, covered (length file - start)) in
    record { held = at.1.held ∙ sym (take_all (start + 16384 * (size - 1)) file all); ended = inl (at.1.whole, at.0, at.1.held) }

-- and the next session can start there
front_again : (held file : List ℕ) (count : ℕ) → held ≡ take count file → held ≡ take (length held) file
front_again held file count is =
    let size : length held ≡ min count (length file) = ap length is ∙ length-take count file in
    is ∙ sym (ap (λ k. take k file) size ∙ take_min count file)

known : (name file : List ℕ) (r : ReceivedFile) → Knows name file r → IfSome r.announced (λ a. (a.name ≡ name) × (a.total ≡ length file))
known name file r knows = subst (λ (o : Option Announced). IfSome o (λ a. (a.name ≡ name) × (a.total ≡ length file))) (sym knows.1) (knows.2, knows.3)

pub session_goes_on : (start i : ℕ) (s : SentFile) (r : ReceivedFile) → InSession s.name s.file start i s r → CanGoOn s r
session_goes_on start i s r (inl at) = record { announced = at.1.announced; held = front_again r.held s.file start at.1.held }
session_goes_on start i s r (inr (inl at)) = record { announced = known s.name s.file r at.2.knows; held = front_again r.held s.file (start + 16384 * at.0) at.2.held }
session_goes_on start i s r (inr (inr at)) = record { announced = known s.name s.file r at.1.knows; held = at.1.held ∙ sym (ap (λ held. take (length held) s.file) at.1.held ∙ take-length s.file) }

-- a receiver with a front of the file starts within it
front_within : (held file : List ℕ) → held ≡ take (length held) file → length held ≤ length file
front_within held file is = let size : length held ≡ min (length held) (length file) = ap length is ∙ length-take (length held) file in omega (arith, size)

-- a session that goes on
pub session_more : (start i : ℕ) (s s' : SentFile) (r r' : ReceivedFile) (held file : List ℕ) (flag : Bool) → flag ≡ true → s.file ≡ file → held ≡ take (length held) file → start ≡ length held
    → InSession s.name s.file start i s r → SendsRecord (Ok flag) s r s' r' → (s'.name ≡ s.name) × (s'.file ≡ s.file) × InSession s'.name s'.file start (i + 1) s' r'
session_more start i s s' r r' held file flag is file_is front place at sends =
    let sent : SendsRecord (Ok true) s r s' r' = subst (λ (b : Bool). SendsRecord (Ok b) s r s' r') is sends in
    let within : start ≤ length s.file = omega (arith, place, front_within held file front, ap length file_is) in
    let name : s'.name ≡ s.name = ap (λ (x : SentFile). x.name) sent.3 in
    let same : s'.file ≡ s.file = ap (λ (x : SentFile). x.file) sent.3 in
    let more : suc i ≡ i + 1 = omega arith in (
      name,
      same,
      subst (λ n. InSession n s'.file start (i + 1) s' r') (sym name) (subst (λ f. InSession s.name f start (i + 1) s' r') (sym same)
          (subst (λ k. InSession s.name s.file start k s' r') more (session_step s.name s.file start i s s' r r' within at sent))),
    )

-- a session that is over before its size
pub session_over : (start i size : ℕ) (s s' : SentFile) (r r' : ReceivedFile) (file : List ℕ) (flag : Bool) → flag ≡ false → s.file ≡ file → i ≤ size
    → InSession s.name s.file start i s r → SendsRecord (Ok flag) s r s' r' → HoldsSession file start size r'
session_over start i size s s' r r' file flag is file_is within at sends =
    let sent : SendsRecord (Ok false) s r s' r' = subst (λ (b : Bool). SendsRecord (Ok b) s r s' r') is sends in
    let over = session_stops s.name s.file start i s r at sent.0 in
    let all : InSession s.name s.file start size s r = inr (inr (omega (arith, over.0, within), over.1)) in
    subst (λ f. HoldsSession f start size r') file_is (subst (λ x. HoldsSession s.file start size x) (sym sent.2) (session_held s.name s.file start size s r all))

-- a session of its size
pub session_full : (start i size : ℕ) (s : SentFile) (r : ReceivedFile) (file : List ℕ) → s.file ≡ file → i ≡ size → InSession s.name s.file start i s r → HoldsSession file start size r
session_full start i size s r file file_is all at =
    subst (λ f. HoldsSession f start size r) file_is (session_held s.name s.file start size s r (subst (λ k. InSession s.name s.file start k s r) all at))
