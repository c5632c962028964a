-- Hex digits that are written are read again.
use Rattle.std.proofs.Common.{◌≡◌, ◌≢◌, ℕ, ◌<◌, ◌≤◌, ◌-◌, ◌/◌, ◌%◌, false, eqb, List, [], ◌∷◌, ◌++◌, length, map, take, drop, slice_index, Option, Some, None, refl, sym, ap, subst, ◌∙◌, arith, inl, inr}
use Rattle.std.specs.List.{AllByRecursion, onto_first}
use Rattle.std.proofs.lemmas.Bool.{ne_eqb}
use Rattle.std.proofs.lemmas.List.{take_all}
use Rattle.std.proofs.lemmas.Bool.Decides.{nat_tests, eqb_tells}
use Rattle.rtc_wire_text.specs.Cuts.{Lacks}
use Rattle.rtc_wire_text.specs.Words.{parts}
use Rattle.rtc_wire_text.specs.Fields.{each, onto}
use Rattle.rtc_wire_text.specs.Hex.{hex_digit, hex_pair, hex_byte, hex_bytes, hex_glyph, hex_pair_text, hex_text}
use Rattle.rtc_wire_text.proofs.FieldLemmas.{so_far, regroup}
use Rattle.rtc_wire_text.proofs.CutLemmas.{parts-after_each, lacks-joined}

-- every item is a byte
abbrev pub AreBytes : List ℕ → Type 0
AreBytes bytes = AllByRecursion (λ b. b < 256) bytes

hex_digit-hex_glyph : (n : ℕ) → n < 16 → hex_digit (hex_glyph n) ≡ Some n
hex_digit-hex_glyph n lt = grind (arith, nat_tests)

hex_byte-hex_pair_text : (n : ℕ) → n < 256 → hex_byte (hex_pair_text n) ≡ Some n
hex_byte-hex_pair_text n lt =
    let high : n / 16 < 16 = omega arith in
    let low : n % 16 < 16 = omega arith in
    rw (hex_digit-hex_glyph (n / 16) high, hex_digit-hex_glyph (n % 16) low) (ap Some (omega arith))

-- a digit is neither below 48 nor 58
glyph_lacks : (byte n : ℕ) → n < 16 → (byte < 48) → eqb (hex_glyph n) byte ≡ false
glyph_lacks byte n lt h = grind (arith, nat_tests)

glyph_lacks_colon : (n : ℕ) → n < 16 → eqb (hex_glyph n) 58 ≡ false
glyph_lacks_colon n lt = grind (arith, nat_tests)

pair_lacks : (byte n : ℕ) → n < 256 → byte < 48 → Lacks byte (hex_pair_text n)
pair_lacks byte n lt h =
    let high : n / 16 < 16 = omega arith in
    let low : n % 16 < 16 = omega arith in
    (glyph_lacks byte (n / 16) high h, (glyph_lacks byte (n % 16) low h, tt))

pairs_lack : (byte : ℕ) → byte < 48 → (bytes : List ℕ) → AreBytes bytes → AllByRecursion (λ w. Lacks byte w) (map hex_pair_text bytes)
pairs_lack byte h [] all = tt
pairs_lack byte h (b ∷ bs) all = (pair_lacks byte b all.0 h, pairs_lack byte h bs all.1)

pairs_lack_colon : (bytes : List ℕ) → AreBytes bytes → AllByRecursion (λ w. Lacks 58 w) (map hex_pair_text bytes)
pairs_lack_colon [] all = tt
pairs_lack_colon (b ∷ bs) all =
    let high : b / 16 < 16 = omega (arith, all.0) in
    let low : b % 16 < 16 = omega (arith, all.0) in
    ((glyph_lacks_colon (b / 16) high, (glyph_lacks_colon (b % 16) low, tt)), pairs_lack_colon bs all.1)

each-pairs : (bytes : List ℕ) → AreBytes bytes → each hex_byte (map hex_pair_text bytes) ≡ Some bytes
each-pairs [] all = refl
each-pairs (b ∷ bs) all = rw (hex_byte-hex_pair_text b all.0, each-pairs bs all.1) refl

-- bytes, at least one, that are written are read again
pub hex_bytes-hex_text : (bytes : List ℕ) → bytes ≢ [] → AreBytes bytes → hex_bytes (hex_text bytes) ≡ Some bytes
hex_bytes-hex_text [] some all = absurd (some refl)
hex_bytes-hex_text (b ∷ bs) some all =
    let lack = pairs_lack_colon (b ∷ bs) all in
    ap (each hex_byte) (parts-after_each 58 (hex_pair_text b) (map hex_pair_text bs) lack.0 lack.1) ∙ each-pairs (b ∷ bs) all

-- a written text has no byte below the digits: neither a space nor the end of a line
pub hex_text_lacks : (byte : ℕ) → byte < 48 → (bytes : List ℕ) → AreBytes bytes → Lacks byte (hex_text bytes)
hex_text_lacks byte h bytes all = lacks-joined byte 58 (ne_eqb 58 byte (λ e. omega arith)) (map hex_pair_text bytes) (pairs_lack byte h bytes all)

-- ---- a text of pairs, pair by pair
no_low : (high : Option ℕ) → hex_pair high None ≡ None
no_low None = refl
no_low (Some n) = refl

-- with a colon behind the pair
pub pair_in_front : (high low : ℕ) (more : List ℕ) → hex_bytes (high ∷ low ∷ 58 ∷ more) ≡ onto (hex_pair (hex_digit high) (hex_digit low)) (hex_bytes more)
pair_in_front high low more = elim (eqb_tells high 58) [
  | inl (t, e) ↦ subst (λ (h : ℕ). hex_bytes (h ∷ low ∷ 58 ∷ more) ≡ onto (hex_pair (hex_digit h) (hex_digit low)) (hex_bytes more)) (sym e) refl
  | inr (f, _) ↦ elim (eqb_tells low 58) [
    | inl (t, e) ↦ subst (λ (l : ℕ). hex_bytes (high ∷ l ∷ 58 ∷ more) ≡ onto (hex_pair (hex_digit high) (hex_digit l)) (hex_bytes more)) (sym e) (rw (f, no_low (hex_digit high)) refl)
    | inr (g, _) ↦ rw (f, g) refl
  ]
]

long_is_none : (a b c : ℕ) (rest : List (List ℕ)) → each hex_byte (onto_first a (onto_first b (onto_first c rest))) ≡ None
long_is_none a b c [] = refl
long_is_none a b c (part ∷ rest) = refl

-- without a colon behind the pair
pub third_is_no_colon : (a b c : ℕ) (more : List ℕ) → eqb c 58 ≡ false → hex_bytes (a ∷ b ∷ c ∷ more) ≡ None
third_is_no_colon a b c more h = elim (eqb_tells a 58) [
  | inl (t, e) ↦ rw t refl
  | inr (f, _) ↦ elim (eqb_tells b 58) [
    | inl (t, e) ↦ rw (f, t) refl
    | inr (g, _) ↦ rw (f, g, h) (long_is_none a b c (parts 58 more))
  ]
]

-- less than a pair, at the end
pub less_than_pair : (text : List ℕ) → length text < 3 → length text ≢ 2 → hex_bytes text ≡ None
less_than_pair [] lt ne = refl
less_than_pair (a ∷ []) lt ne = elim (eqb_tells a 58) [
  | inl (t, e) ↦ rw t refl
  | inr (f, _) ↦ rw f refl
]
less_than_pair (a ∷ b ∷ []) lt ne = absurd (ne refl)
less_than_pair (a ∷ b ∷ c ∷ rest) lt ne = absurd (omega arith)

-- a pair is read, with a colon behind it
pub pair_read : (rest front : List ℕ) (byte : ℕ) (total : Option (List ℕ)) → 3 ≤ length rest → Some byte ≡ hex_pair (hex_digit (slice_index rest 0)) (hex_digit (slice_index rest 1)) → slice_index rest 2 ≡ 58
    → so_far front (hex_bytes rest) ≡ total → so_far (front ++ byte ∷ []) (hex_bytes (take (length rest - 3) (drop 3 rest))) ≡ total
pair_read [] front byte total le e c h = absurd (omega arith)
pair_read (a ∷ []) front byte total le e c h = absurd (omega arith)
pair_read (a ∷ b ∷ []) front byte total le e c h = absurd (omega arith)
pair_read (a ∷ b ∷ colon ∷ more) front byte total le e c h =
    let step : hex_bytes (a ∷ b ∷ colon ∷ more) ≡ onto (Some byte) (hex_bytes more) =
    ap (λ (x : ℕ). hex_bytes (a ∷ b ∷ x ∷ more)) c ∙ pair_in_front a b more ∙ ap (λ (x : Option ℕ). onto x (hex_bytes more)) (sym e) in
    let all : take (length (a ∷ b ∷ colon ∷ more) - 3) more ≡ more = take_all _ more (omega arith) in
    ap (λ (x : List ℕ). so_far (front ++ byte ∷ []) (hex_bytes x)) all ∙ sym (regroup front byte (hex_bytes more)) ∙ ap (so_far front) (sym step) ∙ h

-- what is left is neither a pair nor longer
pub no_pair_left : (rest front : List ℕ) (total : Option (List ℕ)) → length rest < 3 → length rest ≢ 2 → so_far front (hex_bytes rest) ≡ total → None ≡ total
no_pair_left rest front total lt ne h = ap (so_far front) (sym (less_than_pair rest lt ne)) ∙ h
