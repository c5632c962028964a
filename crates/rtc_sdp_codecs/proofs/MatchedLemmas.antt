-- The payload types, formats and codecs of the rows that both sides have.
use Rattle.std.proofs.Common.{◌≡◌, ℕ, eqb, ◌&&◌, Bool, true, false, if◌then◌else◌, List, [], ◌∷◌, ◌++◌, Option, Some, None, refl, sym, subst, ◌∙◌}
use Rattle.std.proofs.lemmas.Bool.{false≢true}
use Rattle.std.specs.List.{AllByRecursion, filter_map, cons_option}
use Rattle.std.specs.Option.{option_or}
use Rattle.std.specs.Str.{bytes_eq}
use Rattle.std.proofs.lemmas.Bool.Decides.{Decides-eqb}
use Rattle.std.proofs.lemmas.Slice.Eq.{bytes_eq-Decides}
use Rattle.rtc_wire_text.specs.LetterCase.{lower}
use Rattle.rtc_wire_text.specs.Once.{IsApart}
use Rattle.rtc_wire_text.proofs.TokenLemmas.{both}
use Rattle.rtc_sdp_values.specs.declared.payload_row.PayloadRow.{PayloadRow}
use Rattle.rtc_sdp_values.specs.declared.pt.Pt.{Pt}
use Rattle.rtc_sdp_codecs.specs.LineFormats.{is_same_format, number_of_both, with_numbers_of, matched_row}
use Rattle.rtc_sdp_codecs.specs.FormedCodecs.{repair_numbers, payload_numbers, all_payload_numbers, IsFormedRow}
use Rattle.rtc_sdp_codecs.proofs.AllLemmas.{all_left, all_right, all_joined, all_weaker, AreOthers, others_none, others_joined, others_left, others_swapped, parts_apart, apart_joined}

-- ---- formats
bytes_one : (a b c : List ℕ) → bytes_eq a c ≡ true → bytes_eq b c ≡ true → bytes_eq b a ≡ true
bytes_one a b c h k =
    let left : a ≡ c = (bytes_eq-Decides a c).0 h in
    let right : b ≡ c = (bytes_eq-Decides b c).0 k in
    (bytes_eq-Decides b a).1 (right ∙ sym left)

numbers_one : (a b c : ℕ) → eqb a c ≡ true → eqb b c ≡ true → eqb b a ≡ true
numbers_one a b c h k =
    let left : a ≡ c = (Decides-eqb a c).0 h in
    let right : b ≡ c = (Decides-eqb b c).0 k in
    (Decides-eqb b a).1 (right ∙ sym left)

-- two rows that have the format of a third have one format
same_three : (row other theirs : PayloadRow) → is_same_format row theirs ≡ true → is_same_format other theirs ≡ true → is_same_format other row ≡ true
same_three row other theirs h k =
    let r = both (bytes_eq (lower row.codec) (lower theirs.codec) && eqb row.clock theirs.clock) (eqb row.channels theirs.channels) h in
    let o = both (bytes_eq (lower other.codec) (lower theirs.codec) && eqb other.clock theirs.clock) (eqb other.channels theirs.channels) k in
    let rc = both (bytes_eq (lower row.codec) (lower theirs.codec)) (eqb row.clock theirs.clock) r.0 in
    let oc = both (bytes_eq (lower other.codec) (lower theirs.codec)) (eqb other.clock theirs.clock) o.0 in
    let codec = bytes_one (lower row.codec) (lower other.codec) (lower theirs.codec) rc.0 oc.0 in
    let clock = numbers_one row.clock other.clock theirs.clock rc.1 oc.1 in
    let channels = numbers_one row.channels other.channels theirs.channels r.1 o.1 in
    rw (codec, clock, channels) refl

-- ---- one row
-- the numbers of a row with those of the other side's row
abbrev taken : (red rtx : Option Pt) → PayloadRow → List ℕ
taken red rtx theirs = repair_numbers (number_of_both red theirs.red) ++ (theirs.pt.0 ∷ repair_numbers (number_of_both rtx theirs.rtx))

-- they are among the numbers of the other side's row
all_taken : (Q : ℕ → Type 0) (red rtx : Option Pt) (theirs : PayloadRow) → AllByRecursion Q (payload_numbers theirs) → AllByRecursion Q (taken red rtx theirs)
all_taken Q None None theirs h =
    let own = all_right Q (repair_numbers theirs.red) (theirs.pt.0 ∷ repair_numbers theirs.rtx) h in
    (own.0, tt)
all_taken Q None (Some rtx) theirs h = all_right Q (repair_numbers theirs.red) (theirs.pt.0 ∷ repair_numbers theirs.rtx) h
all_taken Q (Some red) None theirs h =
    let own = all_right Q (repair_numbers theirs.red) (theirs.pt.0 ∷ repair_numbers theirs.rtx) h in
    let before = all_left Q (repair_numbers theirs.red) (theirs.pt.0 ∷ repair_numbers theirs.rtx) h in
    all_joined Q (repair_numbers theirs.red) (theirs.pt.0 ∷ []) before (own.0, tt)
all_taken Q (Some red) (Some rtx) theirs h = h

-- and apart where those are
apart_taken : (red rtx : Option Pt) (theirs : PayloadRow) → IsApart eqb (payload_numbers theirs) → IsApart eqb (taken red rtx theirs)
apart_taken None None theirs h = (tt, tt)
apart_taken None (Some rtx) theirs h = (parts_apart (repair_numbers theirs.red) (theirs.pt.0 ∷ repair_numbers theirs.rtx) h).right
apart_taken (Some red) None theirs h =
    let parts = parts_apart (repair_numbers theirs.red) (theirs.pt.0 ∷ repair_numbers theirs.rtx) h in
    apart_joined (repair_numbers theirs.red) (theirs.pt.0 ∷ []) (record {
      left = parts.left;
      others = others_left (repair_numbers theirs.red) (theirs.pt.0 ∷ []) (repair_numbers theirs.rtx) parts.others;
      right = (tt, tt);
    })
apart_taken (Some red) (Some rtx) theirs h = h

-- what a row gets at the first of the other side's rows, or behind it
abbrev found_at : Bool → PayloadRow → List PayloadRow → PayloadRow → Option PayloadRow
found_at fits theirs rest row = option_or (if fits then Some (with_numbers_of theirs row) else None) (matched_row rest row)

-- a row that was matched has numbers of the other side
matched_numbers : (Q : ℕ → Type 0) (remote : List PayloadRow) (row made : PayloadRow) → matched_row remote row ≡ Some made → AllByRecursion Q (all_payload_numbers remote) → AllByRecursion Q (payload_numbers made)
matched_numbers Q [] row made e h = absurd cc
matched_numbers Q (theirs ∷ rest) row made e h =
    go (is_same_format row theirs) (λ at. matched_numbers Q rest row made at (all_right Q (payload_numbers theirs) (all_payload_numbers rest) h)) e
  where
    go : (fits : Bool) → (matched_row rest row ≡ Some made → AllByRecursion Q (payload_numbers made)) → found_at fits theirs rest row ≡ Some made → AllByRecursion Q (payload_numbers made)
    go true later at =
        let same : with_numbers_of theirs row ≡ made = cc in
        subst (λ (m : PayloadRow). AllByRecursion Q (payload_numbers m)) same (all_taken Q row.red row.rtx theirs (all_left Q (payload_numbers theirs) (all_payload_numbers rest) h))
    go false later at = later at

matched_own : (remote : List PayloadRow) (row made : PayloadRow) → matched_row remote row ≡ Some made → IsApart eqb (all_payload_numbers remote) → IsApart eqb (payload_numbers made)
matched_own [] row made e h = absurd cc
matched_own (theirs ∷ rest) row made e h =
    go (is_same_format row theirs) (λ at. matched_own rest row made at (parts_apart (payload_numbers theirs) (all_payload_numbers rest) h).right) e
  where
    go : (fits : Bool) → (matched_row rest row ≡ Some made → IsApart eqb (payload_numbers made)) → found_at fits theirs rest row ≡ Some made → IsApart eqb (payload_numbers made)
    go true later at =
        let same : with_numbers_of theirs row ≡ made = cc in
        subst (λ (m : PayloadRow). IsApart eqb (payload_numbers m)) same (apart_taken row.red row.rtx theirs (parts_apart (payload_numbers theirs) (all_payload_numbers rest) h).left)
    go false later at = later at

-- all but its numbers stays
pub record IsRenumbered (row made : PayloadRow) : Type 0 where
  pub theirs : PayloadRow
  pub same : with_numbers_of theirs row ≡ made

matched_keeps : (remote : List PayloadRow) (row made : PayloadRow) → matched_row remote row ≡ Some made → IsRenumbered row made
matched_keeps [] row made e = absurd cc
matched_keeps (theirs ∷ rest) row made e = go (is_same_format row theirs) (matched_keeps rest row made) e
  where
    go : (fits : Bool) → (matched_row rest row ≡ Some made → IsRenumbered row made) → found_at fits theirs rest row ≡ Some made → IsRenumbered row made
    go true later at = record { theirs = theirs; same = cc }
    go false later at = later at

-- ---- two rows
-- the numbers of a row that is matched here are others than those of a row that is matched behind
others_behind : (theirs : PayloadRow) (rest : List PayloadRow) (row other found : PayloadRow) → AreOthers (payload_numbers theirs) (all_payload_numbers rest) → matched_row rest other ≡ Some found → AreOthers (payload_numbers (with_numbers_of theirs row)) (payload_numbers found)
others_behind theirs rest row other found h e =
    let P : ℕ → Type 0 = λ (x : ℕ). AllByRecursion (λ y. eqb y x ≡ false) (all_payload_numbers rest) in
    let Q : ℕ → Type 0 = λ (x : ℕ). AllByRecursion (λ y. eqb y x ≡ false) (payload_numbers found) in
    all_weaker P Q (λ x k. matched_numbers (λ (y : ℕ). eqb y x ≡ false) rest other found e k) (taken row.red row.rtx theirs) (all_taken P row.red row.rtx theirs h)

-- rows with formats of their own get numbers of their own
matched_others : (remote : List PayloadRow) (row made other found : PayloadRow) → is_same_format other row ≡ false → matched_row remote row ≡ Some made → matched_row remote other ≡ Some found → IsApart eqb (all_payload_numbers remote) → AreOthers (payload_numbers made) (payload_numbers found)
matched_others [] row made other found differ e f h = absurd cc
matched_others (theirs ∷ rest) row made other found differ e f h =
    let parts = parts_apart (payload_numbers theirs) (all_payload_numbers rest) h in
    go (is_same_format row theirs) (is_same_format other theirs) refl refl parts.others (λ at to. matched_others rest row made other found differ at to parts.right) e f
  where
    go : (first second : Bool) → is_same_format row theirs ≡ first → is_same_format other theirs ≡ second → AreOthers (payload_numbers theirs) (all_payload_numbers rest) → (matched_row rest row ≡ Some made → matched_row rest other ≡ Some found → AreOthers (payload_numbers made) (payload_numbers found)) → found_at first theirs rest row ≡ Some made → found_at second theirs rest other ≡ Some found → AreOthers (payload_numbers made) (payload_numbers found)
    go true true p q parts later at to = absurd (false≢true (sym differ ∙ same_three row other theirs p q))
    go true false p q parts later at to =
        let same : with_numbers_of theirs row ≡ made = cc in
        subst (λ (m : PayloadRow). AreOthers (payload_numbers m) (payload_numbers found)) same (others_behind theirs rest row other found parts to)
    go false true p q parts later at to =
        let same : with_numbers_of theirs other ≡ found = cc in
        let h : AreOthers (payload_numbers found) (payload_numbers made) = subst (λ (m : PayloadRow). AreOthers (payload_numbers m) (payload_numbers made)) same (others_behind theirs rest other row made parts at) in
        others_swapped (payload_numbers found) (payload_numbers made) h
    go false false p q parts later at to = later at to

-- ---- all rows
pub all_matched_numbers : (Q : ℕ → Type 0) (remote rows : List PayloadRow) → AllByRecursion Q (all_payload_numbers remote) → AllByRecursion Q (all_payload_numbers (filter_map (matched_row remote) rows))
all_matched_numbers Q remote [] h = tt
all_matched_numbers Q remote (row ∷ rest) h = go (matched_row remote row) refl (all_matched_numbers Q remote rest h)
  where
    go : (o : Option PayloadRow) → matched_row remote row ≡ o → AllByRecursion Q (all_payload_numbers (filter_map (matched_row remote) rest)) → AllByRecursion Q (all_payload_numbers (cons_option o (filter_map (matched_row remote) rest)))
    go None e later = later
    go (Some made) e later = all_joined Q (payload_numbers made) (all_payload_numbers (filter_map (matched_row remote) rest)) (matched_numbers Q remote row made e h) later

others_matched : (remote : List PayloadRow) (row made : PayloadRow) → matched_row remote row ≡ Some made → IsApart eqb (all_payload_numbers remote) → (rest : List PayloadRow) → AllByRecursion (λ other. is_same_format other row ≡ false) rest → AreOthers (payload_numbers made) (all_payload_numbers (filter_map (matched_row remote) rest))
others_matched remote row made e h [] differ = others_none (payload_numbers made)
others_matched remote row made e h (other ∷ rest) differ = go (matched_row remote other) refl (others_matched remote row made e h rest differ.1)
  where
    go : (o : Option PayloadRow) → matched_row remote other ≡ o → AreOthers (payload_numbers made) (all_payload_numbers (filter_map (matched_row remote) rest)) → AreOthers (payload_numbers made) (all_payload_numbers (cons_option o (filter_map (matched_row remote) rest)))
    go None f later = later
    go (Some found) f later =
        others_joined (payload_numbers made) (payload_numbers found) (all_payload_numbers (filter_map (matched_row remote) rest)) (matched_others remote row made other found differ.0 e f h) later

pub matched_apart : (remote rows : List PayloadRow) → IsApart is_same_format rows → IsApart eqb (all_payload_numbers remote) → IsApart eqb (all_payload_numbers (filter_map (matched_row remote) rows))
matched_apart remote [] formats h = tt
matched_apart remote (row ∷ rest) formats h = go (matched_row remote row) refl (matched_apart remote rest formats.1 h)
  where
    go : (o : Option PayloadRow) → matched_row remote row ≡ o → IsApart eqb (all_payload_numbers (filter_map (matched_row remote) rest)) → IsApart eqb (all_payload_numbers (cons_option o (filter_map (matched_row remote) rest)))
    go None e later = later
    go (Some made) e later =
        apart_joined (payload_numbers made) (all_payload_numbers (filter_map (matched_row remote) rest)) (record {
          left = matched_own remote row made e h;
          others = others_matched remote row made e h rest formats.0;
          right = later;
        })

-- a fact that numbers leave alone holds of the rows that were matched
pub matched_all : (P : PayloadRow → Type 0) → ((theirs row : PayloadRow) → P row → P (with_numbers_of theirs row)) → (remote rows : List PayloadRow) → AllByRecursion P rows → AllByRecursion P (filter_map (matched_row remote) rows)
matched_all P keeps remote [] h = tt
matched_all P keeps remote (row ∷ rest) h = go (matched_row remote row) refl (matched_all P keeps remote rest h.1)
  where
    go : (o : Option PayloadRow) → matched_row remote row ≡ o → AllByRecursion P (filter_map (matched_row remote) rest) → AllByRecursion P (cons_option o (filter_map (matched_row remote) rest))
    go None e later = later
    go (Some made) e later = let kept = matched_keeps remote row made e in (subst P kept.same (keeps kept.theirs row h.0), later)

pub matched_formats : (remote rows : List PayloadRow) → IsApart is_same_format rows → IsApart is_same_format (filter_map (matched_row remote) rows)
matched_formats remote [] h = tt
matched_formats remote (row ∷ rest) h = go (matched_row remote row) refl (matched_formats remote rest h.1)
  where
    go : (o : Option PayloadRow) → matched_row remote row ≡ o → IsApart is_same_format (filter_map (matched_row remote) rest) → IsApart is_same_format (cons_option o (filter_map (matched_row remote) rest))
    go None e later = later
    go (Some made) e later =
        let kept = matched_keeps remote row made e in
        let P : PayloadRow → Type 0 = λ (other : PayloadRow). is_same_format other (with_numbers_of kept.theirs row) ≡ false in
        let all : AllByRecursion P (filter_map (matched_row remote) rest) = matched_all P (λ theirs other k. k) remote rest h.0 in
        (subst (λ (m : PayloadRow). AllByRecursion (λ other. is_same_format other m ≡ false) (filter_map (matched_row remote) rest)) kept.same all, later)

pub renumbered_formed : (theirs row : PayloadRow) → IsFormedRow row → IsFormedRow (with_numbers_of theirs row)
renumbered_formed theirs row h = record {
  codec = h.codec;
  not_rtx = h.not_rtx;
  not_red = h.not_red;
  clock = h.clock;
  channels = h.channels;
  fmtp = h.fmtp;
}
