-- A skipped line changes no value, and moves the numbers of the lines behind it by one.
use Rattle.std.proofs.Common.{◌≡◌, ℕ, ◌+◌, ◌-◌, ◌^◌, ◌≤◌, min, Bool, true, false, not, cond, List, [], ◌∷◌, ◌++◌, length, map, filter, Option, Some, None, refl, sym, ap, ap₂, ◌∙◌, arith}
use Rattle.std.specs.Prelude.{option_map, ◌==◌}
use Rattle.std.specs.List.{filter_map, cons_option}
use Rattle.std.specs.Option.{option_or}
use Rattle.std.proofs.lemmas.Bool.Decides.{nat_tests}
use Rattle.std.proofs.lemmas.List.{length-map}
use Rattle.rtc_wire_text.specs.Fields.{first}
use Rattle.rtc_sdp_values.specs.declared.media_line.MediaLine.{MediaLine}
use Rattle.rtc_sdp_values.specs.declared.sdp.Sdp.{Sdp}
use Rattle.rtc_sdp_grammar.specs.declared.attribute.Attribute.{Attribute}
use Rattle.rtc_sdp_grammar.specs.declared.item.Item.{Item}
use Rattle.rtc_sdp_grammar.specs.declared.item.Item.TheVariants.{Blank, Bad, BadMedia, Skipped, Version, Origin, Media, Says, Malformed}
use Rattle.rtc_sdp_grammar.specs.ItemForm.{item_of, items_of}
use Rattle.rtc_sdp_reader.specs.declared.place.Place.{Place}
use Rattle.rtc_sdp_reader.specs.declared.place.Place.TheVariants.{First, Second, Session, Line}
use Rattle.rtc_sdp_reader.specs.Parting.{inner, attribute_here, attributes, is_mid_line}
use Rattle.rtc_sdp_reader.specs.Said.{part_said}
use Rattle.rtc_sdp_reader.specs.LineValue.{line_of, lines_of}
use Rattle.rtc_sdp_reader.specs.SessionValue.{origin_of, sdp_made, sdp_of}
use Rattle.rtc_sdp_reader.specs.Refusal.{is_refused, is_refused_later, next, is_short, next_number, refused_from, refused}
use Rattle.rtc_sdp_reader.specs.FirstRefused.{place_after}
use Rattle.rtc_sdp_reader.specs.Reading.{judged, items_reading, reading}
use Rattle.rtc_lines.specs.SkippedLines.{HasSkippedLine, number_behind, with_line_behind}

-- ---- the value
abbrev begins : Item → Bool
begins (Media head) = true
begins BadMedia = true
begins _ = false

inner-cons : (item : Item) (rest : List Item) → inner (item ∷ rest) ≡ cond (begins item) [] (item ∷ inner rest)
inner-cons Blank rest = refl
inner-cons Bad rest = refl
inner-cons BadMedia rest = refl
inner-cons Skipped rest = refl
inner-cons Version rest = refl
inner-cons (Origin id) rest = refl
inner-cons (Media head) rest = refl
inner-cons (Says level attribute) rest = refl
inner-cons (Malformed level what) rest = refl

-- what the lines of a part give, each by itself
same_given : {B : Type 0} (gives : Item → Option B) → gives Skipped ≡ None → (front rest : List Item) → filter_map gives (inner (front ++ Skipped ∷ rest)) ≡ filter_map gives (inner (front ++ rest))
same_given gives none [] rest = rw none refl
same_given {B = B} gives none (item ∷ front) rest = ap (filter_map gives) (inner-cons item (front ++ Skipped ∷ rest)) ∙ go (begins item) (same_given gives none front rest) ∙ sym (ap (filter_map gives) (inner-cons item (front ++ rest)))
  where
    go : (b : Bool) → filter_map gives (inner (front ++ Skipped ∷ rest)) ≡ filter_map gives (inner (front ++ rest))
        → filter_map gives (cond b [] (item ∷ inner (front ++ Skipped ∷ rest))) ≡ filter_map gives (cond b [] (item ∷ inner (front ++ rest)))
    go true h = refl
    go false h = ap (λ (l : List B). cons_option (gives item) l) h

same_mids : (front rest : List Item) → filter is_mid_line (inner (front ++ Skipped ∷ rest)) ≡ filter is_mid_line (inner (front ++ rest))
same_mids [] rest = refl
same_mids (item ∷ front) rest = ap (filter is_mid_line) (inner-cons item (front ++ Skipped ∷ rest)) ∙ go (begins item) (same_mids front rest) ∙ sym (ap (filter is_mid_line) (inner-cons item (front ++ rest)))
  where
    go : (b : Bool) → filter is_mid_line (inner (front ++ Skipped ∷ rest)) ≡ filter is_mid_line (inner (front ++ rest))
        → filter is_mid_line (cond b [] (item ∷ inner (front ++ Skipped ∷ rest))) ≡ filter is_mid_line (cond b [] (item ∷ inner (front ++ rest)))
    go true h = refl
    go false h = ap (λ (l : List Item). cond (is_mid_line item) (item ∷ l) l) h

same_attributes : (in_line : Bool) (front rest : List Item) → attributes in_line (front ++ Skipped ∷ rest) ≡ attributes in_line (front ++ rest)
same_attributes in_line front rest = same_given (attribute_here in_line) refl front rest

same_lines : (front rest : List Item) → lines_of (front ++ Skipped ∷ rest) ≡ lines_of (front ++ rest)
same_lines [] rest = refl
same_lines (Blank ∷ front) rest = same_lines front rest
same_lines (Bad ∷ front) rest = same_lines front rest
same_lines (BadMedia ∷ front) rest = same_lines front rest
same_lines (Skipped ∷ front) rest = same_lines front rest
same_lines (Version ∷ front) rest = same_lines front rest
same_lines (Origin id ∷ front) rest = same_lines front rest
same_lines (Media head ∷ front) rest =
    ap₂ (λ (l : List Attribute) (r : List MediaLine). cons_option (line_of head (part_said l)) r) (same_attributes true front rest) (same_lines front rest)
same_lines (Says level attribute ∷ front) rest = same_lines front rest
same_lines (Malformed level what ∷ front) rest = same_lines front rest

same_origin : (front rest : List Item) → first origin_of (front ++ Skipped ∷ rest) ≡ first origin_of (front ++ rest)
same_origin [] rest = refl
same_origin (item ∷ front) rest = ap (option_or (origin_of item)) (same_origin front rest)

same_value : (front rest : List Item) → sdp_of (front ++ Skipped ∷ rest) ≡ sdp_of (front ++ rest)
unfolding sdp_of
same_value front rest =
    ap₂ (λ (id : Option ℕ) (rows : List MediaLine). sdp_made id (part_said (attributes false (front ++ Skipped ∷ rest))) rows) (same_origin front rest) (same_lines front rest)
    ∙ ap (λ (l : List Attribute). sdp_made (first origin_of (front ++ rest)) (part_said l) (lines_of (front ++ rest))) (same_attributes false front rest)

-- ---- the refused line
same_refusal_later : (in_line : Bool) (item : Item) (front rest : List Item) → is_refused_later in_line item (front ++ Skipped ∷ rest) ≡ is_refused_later in_line item (front ++ rest)
same_refusal_later in_line Blank front rest = refl
same_refusal_later in_line Bad front rest = refl
same_refusal_later in_line BadMedia front rest = refl
same_refusal_later in_line Skipped front rest = refl
same_refusal_later in_line Version front rest = refl
same_refusal_later in_line (Origin id) front rest = refl
same_refusal_later in_line (Media head) front rest = ap (λ (l : List Item). not (length l == 1)) (same_mids front rest)
same_refusal_later in_line (Says level attribute) front rest = refl
same_refusal_later in_line (Malformed level what) front rest = refl

same_refusal : (place : Place) (item : Item) (front rest : List Item) → is_refused place item (front ++ Skipped ∷ rest) ≡ is_refused place item (front ++ rest)
same_refusal First item front rest = refl
same_refusal Second item front rest = refl
same_refusal Session item front rest = same_refusal_later false item front rest
same_refusal Line item front rest = same_refusal_later true item front rest

-- a text that has begun stays so
later_is_begun : (place : Place) (item : Item) → is_short place ≡ false → is_short (next place item) ≡ false
later_is_begun First item h = absurd cc
later_is_begun Second item h = absurd cc
later_is_begun Session Blank h = refl
later_is_begun Session Bad h = refl
later_is_begun Session BadMedia h = refl
later_is_begun Session Skipped h = refl
later_is_begun Session Version h = refl
later_is_begun Session (Origin id) h = refl
later_is_begun Session (Media head) h = refl
later_is_begun Session (Says level attribute) h = refl
later_is_begun Session (Malformed level what) h = refl
later_is_begun Line item h = refl

skipped_passes : (place : Place) (rest : List Item) (n : ℕ) → is_short place ≡ false → refused_from place n (Skipped ∷ rest) ≡ refused_from place (next_number n) rest
skipped_passes First rest n h = absurd cc
skipped_passes Second rest n h = absurd cc
skipped_passes Session rest n h = refl
skipped_passes Line rest n h = refl

-- the number of the line behind k lines
abbrev number_of : ℕ → ℕ
number_of k = min k (2 ^ 32 - 1)

next-number_of : (k : ℕ) → next_number (number_of k) ≡ number_of (k + 1)
next-number_of k = grind arith

behind_it : (before k : ℕ) → number_behind before (number_of (before + k + 1)) ≡ number_of (before + k + 2)
behind_it before k = grind (arith, nat_tests)

in_front_of_it : (before k : ℕ) → k + 1 ≤ before → number_behind before (number_of (k + 1)) ≡ number_of (k + 1)
in_front_of_it before k le = grind (arith, nat_tests)

-- of the lines behind it
refused_behind : (place : Place) (before k : ℕ) (rest : List Item) → is_short place ≡ false
    → refused_from place (number_of (before + k + 1)) rest ≡ option_map (number_behind before) (refused_from place (number_of (before + k)) rest)
refused_behind place before k [] h = rw h refl
refused_behind place before k (item ∷ rest) h =
    go (is_refused place item rest) (refused_behind (next place item) before (k + 1) rest (later_is_begun place item h))
  where
    go : (b : Bool) → refused_from (next place item) (number_of (before + (k + 1) + 1)) rest ≡ option_map (number_behind before) (refused_from (next place item) (number_of (before + (k + 1))) rest)
        → cond b (Some (next_number (number_of (before + k + 1)))) (refused_from (next place item) (next_number (number_of (before + k + 1))) rest)
        ≡ option_map (number_behind before) (cond b (Some (next_number (number_of (before + k)))) (refused_from (next place item) (next_number (number_of (before + k))) rest))
    go true ih = ap Some (next-number_of (before + k + 1) ∙ ap number_of (omega arith) ∙ sym (behind_it before k) ∙ ap (number_behind before) (sym (next-number_of (before + k))))
    go false ih =
        ap (λ (n : ℕ). refused_from (next place item) n rest) (next-number_of (before + k + 1) ∙ ap number_of (omega arith)) ∙ ih
        ∙ ap (λ (n : ℕ). option_map (number_behind before) (refused_from (next place item) n rest)) (ap number_of (omega arith) ∙ sym (next-number_of (before + k)))

-- of all lines
refused_with : (place : Place) (k before : ℕ) (front rest : List Item) → before ≡ k + length front → is_short (place_after place front) ≡ false
    → refused_from place (number_of k) (front ++ Skipped ∷ rest) ≡ option_map (number_behind before) (refused_from place (number_of k) (front ++ rest))
refused_with place k before [] rest e h =
    let same : k ≡ before + 0 = omega arith in
    skipped_passes place rest (number_of k) h ∙ ap (λ (n : ℕ). refused_from place n rest) (next-number_of k ∙ ap number_of (omega arith)) ∙ refused_behind place before 0 rest h
    ∙ ap (λ (n : ℕ). option_map (number_behind before) (refused_from place (number_of n) rest)) (sym same)
refused_with place k before (item ∷ front) rest e h =
    ap (λ (b : Bool). cond b (Some (next_number (number_of k))) (refused_from (next place item) (next_number (number_of k)) (front ++ Skipped ∷ rest))) (same_refusal place item front rest)
    ∙ go (is_refused place item (front ++ rest)) (refused_with (next place item) (k + 1) before front rest (omega arith) h)
  where
    go : (b : Bool) → refused_from (next place item) (number_of (k + 1)) (front ++ Skipped ∷ rest) ≡ option_map (number_behind before) (refused_from (next place item) (number_of (k + 1)) (front ++ rest))
        → cond b (Some (next_number (number_of k))) (refused_from (next place item) (next_number (number_of k)) (front ++ Skipped ∷ rest))
        ≡ option_map (number_behind before) (cond b (Some (next_number (number_of k))) (refused_from (next place item) (next_number (number_of k)) (front ++ rest)))
    go true ih = ap Some (next-number_of k ∙ sym (in_front_of_it before k (omega (arith, e))) ∙ ap (number_behind before) (sym (next-number_of k)))
    go false ih =
        ap (λ (n : ℕ). refused_from (next place item) n (front ++ Skipped ∷ rest)) (next-number_of k) ∙ ih
        ∙ ap (λ (n : ℕ). option_map (number_behind before) (refused_from (next place item) n (front ++ rest))) (sym (next-number_of k))

-- ---- the reading
judged_with : (before : ℕ) (number : Option ℕ) (sdp : Sdp) → judged (option_map (number_behind before) number) sdp ≡ with_line_behind before (judged number sdp)
judged_with before None sdp = refl
judged_with before (Some n) sdp = refl

items_with : (front rest : List Item) → is_short (place_after First front) ≡ false → items_reading (front ++ Skipped ∷ rest) ≡ with_line_behind (length front) (items_reading (front ++ rest))
items_with front rest h =
    ap₂ (λ (n : Option ℕ) (s : Sdp). judged n s) (refused_with First 0 (length front) front rest (omega arith) h) (same_value front rest)
    ∙ judged_with (length front) (refused (front ++ rest)) (sdp_of (front ++ rest))

map-append : (front rest : List (List ℕ)) → map item_of (front ++ rest) ≡ map item_of front ++ map item_of rest
map-append [] rest = refl
map-append (line ∷ front) rest = ap (λ (l : List Item). item_of line ∷ l) (map-append front rest)

pub skipped_line_changes_nothing : (text other : List ℕ) (front : List (List ℕ)) → HasSkippedLine text other front → reading text ≡ with_line_behind (length front) (reading other)
skipped_line_changes_nothing text other front has =
    let with_it : items_of text ≡ map item_of front ++ Skipped ∷ map item_of has.rest =
    ap (map item_of) has.with_it ∙ map-append front (has.line ∷ has.rest) ∙ ap (λ (i : Item). map item_of front ++ i ∷ map item_of has.rest) has.skipped in
    let without_it : items_of other ≡ map item_of front ++ map item_of has.rest = ap (map item_of) has.without_it ∙ map-append front has.rest in
    ap items_reading with_it ∙ items_with (map item_of front) (map item_of has.rest) has.begun
    ∙ ap₂ with_line_behind (length-map front item_of) (ap items_reading (sym without_it))
