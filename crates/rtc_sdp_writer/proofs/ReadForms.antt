-- What forms give.
use Rattle.std.proofs.Common.{◌≡◌, ◌≤◌, ◌<◌, ℕ, Bool, true, false, cond, List, [], ◌∷◌, Option, Some, None, refl, inl, inr}
use Rattle.std.specs.Prelude.{filter, option_map, IfSome, is_none}
use Rattle.std.specs.List.{AllByRecursion}
use Rattle.std.proofs.lemmas.Bool.Decides.{leb_tells}
use Rattle.rtc_wire_text.specs.Cuts.{cut, Lacks}
use Rattle.rtc_wire_text.specs.Fields.{each, onto}
use Rattle.rtc_wire_text.specs.Numbers.{number, at_most, number_up_to}
use Rattle.rtc_wire_text.specs.Tokens.{is_short_token}
use Rattle.rtc_wire_text.specs.Words.{parts}
use Rattle.rtc_sdp_values.specs.Extension.{of_uri}
use Rattle.rtc_sdp_values.specs.declared.direction.Direction.TheVariants.{SendRecv}
use Rattle.rtc_sdp_attributes.specs.AttributeForms.{direction_words, rid_direction_words, extmap, extmap_id, extmap_made, rid, rid_made, rid_pair, rid_pairs, is_kept}
use Rattle.rtc_sdp_attributes.specs.Forms.{Form, passing, short_token, bytes_but, one_of, above_zero, positive_up_to, fields_together, halves_together, split_fields, with_default, tailed, each_part}
use Rattle.rtc_sdp_writer.specs.Plain.{IsPlainExtension, IsPairOfLine}
use Rattle.rtc_sdp_writer.proofs.Lacking.{CutLacks, cut_lacks, parts_keep, parts_lack, both_all, IsFilled}

-- a form gives nothing else than such values, of texts without a line feed
abbrev pub Gives : {A : Type 0} → Form A → (A → Type 0) → Type 0
Gives form P = (text : List ℕ) → Lacks 10 text → IfSome (form text) P

pub anything : {A : Type 0} (found : Option A) → IfSome found (λ a. Unit {0})
anything None = tt
anything (Some a) = tt

pub if_some : {A B : Type 0} (says : A → B) (P : A → Type 0) (Q : B → Type 0) → ((a : A) → P a → Q (says a)) → (found : Option A) → IfSome found P
    → IfSome (option_map says found) Q
if_some says P Q then None p = tt
if_some says P Q then (Some a) p = then a p

passed : (test : List ℕ → Bool) (text : List ℕ) → IfSome (passing test text) (λ given. (given ≡ text) × (test given ≡ true))
passed test text = by (test text) refl
  where
    by : (b : Bool) → test text ≡ b → IfSome (cond b (Some text) None) (λ given. (given ≡ text) × (test given ≡ true))
    by true is = (refl, is)
    by false is = tt

pub short_tokens : Gives short_token (λ text. is_short_token text ≡ true)
short_tokens text lacks = by (short_token text) (passed is_short_token text)
  where
    by : (found : Option (List ℕ)) → IfSome found (λ given. (given ≡ text) × (is_short_token given ≡ true)) → IfSome found (λ given. is_short_token given ≡ true)
    by None h = tt
    by (Some given) h = h.1

together : {A B : Type 0} (P : A → Type 0) (Q : B → Type 0) (a : Option A) (b : Option B) → IfSome a P → IfSome b Q
    → IfSome (fields_together a b) (λ r. P r.0 × Q r.1)
together P Q None b p q = tt
together P Q (Some x) None p q = tt
together P Q (Some x) (Some y) p q = (p, q)

-- two fields round a byte
split_gives : {A B : Type 0} (byte : ℕ) (front : Form A) (back : Form B) (P : A → Type 0) (Q : B → Type 0) → Gives front P → Gives back Q
    → Gives (split_fields byte front back) (λ r. P r.0 × Q r.1)
split_gives {A = A} {B = B} byte front back P Q fronts backs text lacks = by (cut byte text) (cut_lacks byte text)
  where
    by : (found : Option (List ℕ × List ℕ)) → CutLacks byte text found → IfSome (halves_together front back found) (λ r. P r.0 × Q r.1)
    by None h = tt
    by (Some halves) h = together P Q (front halves.0) (back halves.1) (fronts halves.0 (h.fronts 10 lacks)) (backs halves.1 (h.behinds 10 lacks))

-- a field, and maybe another behind it
tail_gives : {A B : Type 0} (byte : ℕ) (front : Form A) (default : B) (back : Form B) (P : A → Type 0) (Q : B → Type 0) → Gives front P → Q default
    → Gives back Q → Gives (tailed byte front default back) (λ r. P r.0 × Q r.1)
tail_gives {A = A} {B = B} byte front default back P Q fronts q backs text lacks = by (cut byte text) (cut_lacks byte text)
  where
    by : (found : Option (List ℕ × List ℕ)) → CutLacks byte text found
        → IfSome (with_default front default back text found) (λ r. P r.0 × Q r.1)
    by None h = together P Q (front text) (Some default) (fronts text lacks) q
    by (Some halves) h = together P Q (front halves.0) (back halves.1) (fronts halves.0 (h.fronts 10 lacks)) (backs halves.1 (h.behinds 10 lacks))

-- ---- numbers
pub at_most_is : (most : ℕ) (found : Option ℕ) → IfSome (at_most most found) (λ n. n ≤ most)
at_most_is most None = tt
at_most_is most (Some n) = elim (leb_tells n most) [
  | inl (t, le) ↦ rw t le
  | inr (f, _) ↦ rw f tt
]

pub numbers_at_most : (most : ℕ) → Gives (number_up_to most) (λ n. n ≤ most)
numbers_at_most most text lacks = at_most_is most (number text)

above_zero_is : (most : ℕ) (found : Option ℕ) → IfSome found (λ n. n ≤ most) → IfSome (above_zero found) (λ n. (0 < n) × (n ≤ most))
above_zero_is most None h = tt
above_zero_is most (Some n) h = elim (leb_tells 1 n) [
  | inl (t, le) ↦ rw t (le, h)
  | inr (f, _) ↦ rw f tt
]

-- ---- extension ids
ids_of_extensions : Gives extmap_id (λ r. ((0 < r.0) × (r.0 ≤ 255)) × Unit {0})
ids_of_extensions =
    tail_gives 47 (positive_up_to 255) SendRecv (one_of direction_words) (λ n. (0 < n) × (n ≤ 255)) (λ d. Unit {0})
    (λ text lacks. above_zero_is 255 (number_up_to 255 text) (numbers_at_most 255 text lacks)) tt (λ text lacks. anything (one_of direction_words text))

pub extensions_plain : Gives extmap IsPlainExtension
extensions_plain text lacks =
    if_some extmap_made (λ r. (((0 < r.0.0) × (r.0.0 ≤ 255)) × Unit {0}) × Unit {0}) IsPlainExtension (λ r h. h.0.0)
    (split_fields 32 extmap_id of_uri text)
    (split_gives 32 extmap_id of_uri (λ r. ((0 < r.0) × (r.0 ≤ 255)) × Unit {0}) (λ e. Unit {0}) ids_of_extensions (λ t l. anything (of_uri t)) text lacks)

-- ---- each of several fields
pub each_gives : {A : Type 0} (form : Form A) (Q : List ℕ → Type 0) (P : A → Type 0) → ((field : List ℕ) → Q field → IfSome (form field) P)
    → (fields : List (List ℕ)) → AllByRecursion Q fields → IfSome (each form fields) (AllByRecursion P)
each_gives form Q P gives [] h = tt
each_gives {A = A} form Q P gives (field ∷ fields) h = by (form field) (gives field h.0) (each form fields) (each_gives form Q P gives fields h.1)
  where
    by : (a : Option A) → IfSome a P → (rest : Option (List A)) → IfSome rest (AllByRecursion P) → IfSome (onto a rest) (AllByRecursion P)
    by None p rest q = tt
    by (Some b) p None q = tt
    by (Some b) p (Some bs) q = (p, q)

pub each_filled : {A : Type 0} (form : Form A) (fields : List (List ℕ)) → IsFilled fields → IfSome (each form fields) (λ given. IsFilled given)
each_filled form [] h = absurd h
each_filled {A = A} form (field ∷ fields) h = by (form field) (each form fields)
  where
    by : (a : Option A) (rest : Option (List A)) → IfSome (onto a rest) (λ given. IsFilled given)
    by None rest = tt
    by (Some b) None = tt
    by (Some b) (Some bs) = tt

-- ---- pairs of layers
abbrev IsOpenPair : List ℕ × List ℕ → Type 0
IsOpenPair pair = ((Lacks 59 pair.0 × Lacks 61 pair.0) × Lacks 10 pair.0) × ((Lacks 59 pair.1 × Lacks 61 pair.1) × Lacks 10 pair.1)

uncut : (byte : ℕ) (text : List ℕ) → is_none (cut byte text) ≡ true → Lacks byte text
uncut byte text = by (cut byte text) (cut_lacks byte text)
  where
    by : (found : Option (List ℕ × List ℕ)) → CutLacks byte text found → is_none found ≡ true → Lacks byte text
    by None h is = h
    by (Some halves) h is = absurd cc

open_pair : (text : List ℕ) → (Lacks 59 text × Lacks 10 text) → IfSome (rid_pair text) IsOpenPair
open_pair text lacks = by (cut 61 text) (cut_lacks 61 text)
  where
    value_in : (key value : List ℕ) → Lacks 59 value → Lacks 10 value → ((Lacks 59 key × Lacks 61 key) × Lacks 10 key) → (found : Option (List ℕ))
        → IfSome found (λ given. (given ≡ value) × (is_none (cut 61 given) ≡ true)) → IfSome (option_map (λ v. (key, v)) found) IsOpenPair
    value_in key value semicolon line keys None h = tt
    value_in key value semicolon line keys (Some given) h =
        let same : given ≡ value = h.0 in
        (keys, ((rw same semicolon, uncut 61 given h.1), rw same line))

    by : (found : Option (List ℕ × List ℕ)) → CutLacks 61 text found → IfSome (halves_together Some (bytes_but 61) found) IsOpenPair
    by None h = tt
    by (Some halves) h =
        value_in halves.0 halves.1 (h.behinds 59 lacks.0) (h.behinds 10 lacks.1) ((h.fronts 59 lacks.0, h.own), h.fronts 10 lacks.1)
        (bytes_but 61 halves.1) (passed (λ t. is_none (cut 61 t)) halves.1)

kept_pairs : (pairs : List (List ℕ × List ℕ)) → AllByRecursion IsOpenPair pairs → AllByRecursion IsPairOfLine (filter is_kept pairs)
kept_pairs [] h = tt
kept_pairs (pair ∷ pairs) h = by (kept_pairs pairs h.1) (is_kept pair) refl
  where
    by : AllByRecursion IsPairOfLine (filter is_kept pairs) → (b : Bool) → is_kept pair ≡ b
        → AllByRecursion IsPairOfLine (cond b (pair ∷ filter is_kept pairs) (filter is_kept pairs))
    by rest true is = (
      (
        record {
          kept = is;
          key_semicolon = h.0.0.0.0;
          key_equals = h.0.0.0.1;
          value_semicolon = h.0.1.0.0;
          value_equals = h.0.1.0.1;
        },
        h.0.0.1,
        h.0.1.1,
      ),
      rest,
    )
    by rest false is = rest

pairs_plain : Gives rid_pairs (AllByRecursion IsPairOfLine)
pairs_plain text lacks =
    if_some (filter is_kept) (AllByRecursion IsOpenPair) (AllByRecursion IsPairOfLine) kept_pairs (each_part 59 rid_pair text)
    (each_gives rid_pair (λ w. Lacks 59 w × Lacks 10 w) IsOpenPair open_pair (parts 59 text)
    (both_all (λ w. Lacks 59 w) (λ w. Lacks 10 w) (parts 59 text) (parts_lack 59 text) (parts_keep 59 10 text lacks)))

pub layers_plain : Gives rid (λ line. AllByRecursion IsPairOfLine line.attributes)
layers_plain text lacks =
    if_some rid_made (λ r. (is_short_token r.0 ≡ true) × (Unit {0} × AllByRecursion IsPairOfLine r.1.1)) (λ line. AllByRecursion IsPairOfLine line.attributes)
    (λ r h. h.1.1)
    (split_fields 32 short_token (tailed 32 (one_of rid_direction_words) [] rid_pairs) text)
    (split_gives 32 short_token (tailed 32 (one_of rid_direction_words) [] rid_pairs) (λ t. is_short_token t ≡ true) (λ r. Unit {0} × AllByRecursion IsPairOfLine r.1)
    short_tokens (tail_gives 32 (one_of rid_direction_words) [] rid_pairs (λ d. Unit {0}) (AllByRecursion IsPairOfLine) (λ t l. anything (one_of rid_direction_words t)) tt pairs_plain) text lacks)

pub all_units : (fields : List (List ℕ)) → AllByRecursion (λ w. Unit {0}) fields
all_units [] = tt
all_units (w ∷ ws) = (tt, all_units ws)
