-- Texts cut at a byte that their words do not have.
use Rattle.std.proofs.Common.{◌≡◌, ◌==◌, ◌++◌, ◌∷◌, ℕ, false, true≢false, List, [], refl, sym, ◌∙◌, ap, append-nil, append_assoc}
use Rattle.std.specs.List.{AllByRecursion, flat_map}
use Rattle.std.proofs.lemmas.Bool.{eq-eqb, or_parts}
use Rattle.std.proofs.lemmas.List.{append_cancel_left}
use Rattle.rtc_script_reports.specs.Fits.{has_byte}

-- ---- pieces one behind another

-- the text of lines
abbrev pub text_of : List (List ℕ) → List ℕ
text_of lines = flat_map (λ line. line) lines

-- a text with pieces put behind it, one after another
abbrev pub put_behind : List ℕ → List (List ℕ) → List ℕ
put_behind front [] = front
put_behind front (piece ∷ pieces) = put_behind (front ++ piece) pieces

pub put_is : (front : List ℕ) (pieces : List (List ℕ)) → put_behind front pieces ≡ front ++ text_of pieces
put_is front [] = sym (append-nil front)
put_is front (piece ∷ pieces) = put_is (front ++ piece) pieces ∙ append_assoc front piece (text_of pieces)

-- texts with one front differ behind it alone
pub cut_front : (front : List ℕ) (pieces others : List (List ℕ)) → put_behind front pieces ≡ put_behind front others → text_of pieces ≡ text_of others
cut_front front pieces others e =
    append_cancel_left front (text_of pieces) (text_of others) (sym (put_is front pieces) ∙ e ∙ put_is front others)

-- ---- bytes that a text does not have

pub none_append : (byte : ℕ) (l m : List ℕ) → has_byte byte l ≡ false → has_byte byte m ≡ false → has_byte byte (l ++ m) ≡ false
none_append byte [] m a b = b
none_append byte (c ∷ l) m a b =
    let parts = or_parts (c == byte) (has_byte byte l) a in
    rw parts.0 (none_append byte l m parts.1 b)

-- pieces without a byte make a text without it
abbrev pub AllNone : ℕ → List (List ℕ) → Type 0
AllNone byte pieces = AllByRecursion (λ piece. has_byte byte piece ≡ false) pieces

pub none_put : (byte : ℕ) (front : List ℕ) (pieces : List (List ℕ)) → has_byte byte front ≡ false → AllNone byte pieces → has_byte byte (put_behind front pieces) ≡ false
none_put byte front [] a b = a
none_put byte front (piece ∷ pieces) a b = none_put byte (front ++ piece) pieces (none_append byte front piece a b.0) b.1

held : (byte c : ℕ) (l : List ℕ) → c ≡ byte → has_byte byte (c ∷ l) ≡ false → ⊥
held byte c l is none = true≢false (sym (eq-eqb c byte is) ∙ (or_parts (c == byte) (has_byte byte l) none).0)

-- ---- cuts

same_tail : (c d : ℕ) (r q : List ℕ) → ◌≡◌ {A = List ℕ} (c ∷ r) (d ∷ q) → (c ≡ d) × (r ≡ q)
same_tail c d r q e = (cc, cc)

-- nothing more comes, or the byte
abbrev pub Begins : ℕ → List ℕ → Type 0
Begins byte [] = Unit {0}
Begins byte (c ∷ text) = c ≡ byte

-- words up to a byte that they do not have are equal where the texts are
pub cut_word : (byte : ℕ) (l m r q : List ℕ) → has_byte byte l ≡ false → has_byte byte m ≡ false → Begins byte r → Begins byte q → l ++ r ≡ m ++ q → (l ≡ m) × (r ≡ q)
cut_word byte [] [] r q a b on on' e = (refl, e)
cut_word byte [] (d ∷ m) [] q a b on on' e = absurd (let f : ◌≡◌ {A = List ℕ} [] (d ∷ (m ++ q)) = e in cc)
cut_word byte [] (d ∷ m) (x ∷ r) q a b on on' e = absurd (held byte d m (sym (same_tail x d r (m ++ q) e).0 ∙ on) b)
cut_word byte (c ∷ l) [] r [] a b on on' e = absurd (let f : ◌≡◌ {A = List ℕ} (c ∷ (l ++ r)) [] = e in cc)
cut_word byte (c ∷ l) [] r (x ∷ q) a b on on' e = absurd (held byte c l ((same_tail c x (l ++ r) q e).0 ∙ on') a)
cut_word byte (c ∷ l) (d ∷ m) r q a b on on' e =
    let both = same_tail c d (l ++ r) (m ++ q) e in
    let rest = cut_word byte l m r q (or_parts (c == byte) (has_byte byte l) a).1 (or_parts (d == byte) (has_byte byte m) b).1 on on' both.1 in
    (ap (λ (n : ℕ). n ∷ l) both.0 ∙ ap (λ (t : List ℕ). d ∷ t) rest.0, rest.1)

-- words up to a space
pub cut_space : (l m r q : List ℕ) → has_byte 32 l ≡ false → has_byte 32 m ≡ false → l ++ 32 ∷ r ≡ m ++ 32 ∷ q → (l ≡ m) × (r ≡ q)
cut_space l m r q a b e =
    let cut = cut_word 32 l m (32 ∷ r) (32 ∷ q) a b refl refl e in
    (cut.0, (same_tail 32 32 r q cut.1).1)

-- texts are equal where they are equal before one end
pub cut_end : (byte : ℕ) (l m : List ℕ) → has_byte byte l ≡ false → has_byte byte m ≡ false → l ++ byte ∷ [] ≡ m ++ byte ∷ [] → l ≡ m
cut_end byte l m a b e = (cut_word byte l m (byte ∷ []) (byte ∷ []) a b refl refl e).0

pub cut_nothing : (l m : List ℕ) → l ++ [] ≡ m ++ [] → l ≡ m
cut_nothing l m e = sym (append-nil l) ∙ e ∙ append-nil m
