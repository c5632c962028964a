-- Texts of lines, and lists of lines that are told apart by how they begin.
use Rattle.std.proofs.Common.{◌≡◌, ◌==◌, ◌++◌, ◌∷◌, ℕ, Bool, true, false, true≢false, List, [], refl, sym, ◌∙◌, ap, append_assoc}
use Rattle.std.specs.List.{AllByRecursion}
use Rattle.std.proofs.lemmas.Bool.{eq-eqb, or_parts}
use Rattle.rtc_script_reports.specs.Fits.{breaks}
use Rattle.rtc_script_reports.proofs.Cuts.{text_of}

-- a text is one line, with its end
pub record IsOneLine (text : List ℕ) : Type 0 where
  pub content : List ℕ
  pub is : text ≡ content ++ 10 ∷ []
  pub whole : breaks content ≡ false

-- ---- the first line of a text

same_tail : (c d : ℕ) (r q : List ℕ) → ◌≡◌ {A = List ℕ} (c ∷ r) (d ∷ q) → (c ≡ d) × (r ≡ q)
same_tail c d r q e = (cc, cc)

broken : (c : ℕ) (l : List ℕ) → c ≡ 10 → breaks (c ∷ l) ≡ false → ⊥
broken c l is whole = true≢false (sym (eq-eqb c 10 is) ∙ (or_parts (c == 10) (breaks l) whole).0)

-- texts before the first end of line are equal where the whole texts are
pub cut_line : (l m r q : List ℕ) → breaks l ≡ false → breaks m ≡ false → l ++ 10 ∷ r ≡ m ++ 10 ∷ q → (l ≡ m) × (r ≡ q)
cut_line [] [] r q a b e = (refl, (same_tail 10 10 r q e).1)
cut_line [] (d ∷ m) r q a b e = absurd (broken d m (sym (same_tail 10 d r (m ++ 10 ∷ q) e).0) b)
cut_line (c ∷ l) [] r q a b e = absurd (broken c l (same_tail c 10 (l ++ 10 ∷ r) q e).0 a)
cut_line (c ∷ l) (d ∷ m) r q a b e =
    let both = same_tail c d (l ++ 10 ∷ r) (m ++ 10 ∷ q) e in
    let rest = cut_line l m r q (or_parts (c == 10) (breaks l) a).1 (or_parts (d == 10) (breaks m) b).1 both.1 in
    (ap (λ (n : ℕ). n ∷ l) both.0 ∙ ap (λ (t : List ℕ). d ∷ t) rest.0, rest.1)

opened : (l r : List ℕ) (one : IsOneLine l) → l ++ r ≡ one.content ++ 10 ∷ r
opened l r one = ap (λ (t : List ℕ). t ++ r) one.is ∙ append_assoc one.content (10 ∷ []) r

pub cut_lines : (l m r q : List ℕ) → IsOneLine l → IsOneLine m → l ++ r ≡ m ++ q → (l ≡ m) × (r ≡ q)
cut_lines l m r q one other e =
    let cut = cut_line one.content other.content r q one.whole other.whole (sym (opened l r one) ∙ e ∙ opened m q other) in
    (one.is ∙ ap (λ (t : List ℕ). t ++ 10 ∷ []) cut.0 ∙ sym other.is, cut.1)

-- ---- how lines begin

-- the first letter of a text
abbrev pub first_of : List ℕ → ℕ
first_of [] = 0
first_of (c ∷ text) = c

-- each line begins with a letter that is, or is not, one of some
abbrev pub AllBegin : (ℕ → Bool) → Bool → List (List ℕ) → Type 0
AllBegin p b lines = AllByRecursion (λ line. p (first_of line) ≡ b) lines

-- nothing more comes, or a letter of some
abbrev pub GoesOn : (ℕ → Bool) → List ℕ → Type 0
GoesOn p [] = Unit {0}
GoesOn p (c ∷ text) = p c ≡ true

first_back : (l r : List ℕ) → IsOneLine l → first_of (l ++ r) ≡ first_of l
first_back [] r one = absurd (nothing one.content one.is)
  where
    nothing : (content : List ℕ) → ◌≡◌ {A = List ℕ} [] (content ++ 10 ∷ []) → ⊥
    nothing [] e = absurd (let f : ◌≡◌ {A = List ℕ} [] (10 ∷ []) = e in cc)
    nothing (c ∷ content) e = absurd (let f : ◌≡◌ {A = List ℕ} [] (c ∷ (content ++ 10 ∷ [])) = e in cc)
first_back (c ∷ l) r one = refl

-- a line that begins otherwise does not come where such a text goes on
wrong : (p : ℕ → Bool) (l r more : List ℕ) → IsOneLine l → p (first_of l) ≡ false → GoesOn p more → more ≡ l ++ r → ⊥
wrong p [] r more one other on e = absurd (let f : first_of ([] ++ r) ≡ 0 = first_back [] r one in nothing one.content one.is)
  where
    nothing : (content : List ℕ) → ◌≡◌ {A = List ℕ} [] (content ++ 10 ∷ []) → ⊥
    nothing [] e = absurd (let f : ◌≡◌ {A = List ℕ} [] (10 ∷ []) = e in cc)
    nothing (c ∷ content) e = absurd (let f : ◌≡◌ {A = List ℕ} [] (c ∷ (content ++ 10 ∷ [])) = e in cc)
wrong p (c ∷ l) r [] one other on e = absurd (let f : ◌≡◌ {A = List ℕ} [] (c ∷ (l ++ r)) = e in cc)
wrong p (c ∷ l) r (d ∷ more) one other on e = true≢false (sym on ∙ ap p (same_tail d c more (l ++ r) e).0 ∙ other)

-- lines up to one that begins otherwise are equal where the texts are
pub cut_text : (p : ℕ → Bool) (xs ys : List (List ℕ)) (r q : List ℕ) → AllByRecursion IsOneLine xs → AllByRecursion IsOneLine ys → AllBegin p false xs → AllBegin p false ys → GoesOn p r → GoesOn p q
    → text_of xs ++ r ≡ text_of ys ++ q → (xs ≡ ys) × (r ≡ q)
cut_text p [] [] r q ones others not_x not_y on on' e = (refl, e)
cut_text p [] (y ∷ ys) r q ones others not_x not_y on on' e =
    absurd (wrong p y (text_of ys ++ q) r others.0 not_y.0 on (e ∙ append_assoc y (text_of ys) q))
cut_text p (x ∷ xs) [] r q ones others not_x not_y on on' e =
    absurd (wrong p x (text_of xs ++ r) q ones.0 not_x.0 on' (sym e ∙ append_assoc x (text_of xs) r))
cut_text p (x ∷ xs) (y ∷ ys) r q ones others not_x not_y on on' e =
    let cut = cut_lines x y (text_of xs ++ r) (text_of ys ++ q) ones.0 others.0 (sym (append_assoc x (text_of xs) r) ∙ e ∙ append_assoc y (text_of ys) q) in
    let rest = cut_text p xs ys r q ones.1 others.1 not_x.1 not_y.1 on on' cut.1 in
    (ap (λ (line : List ℕ). line ∷ xs) cut.0 ∙ ap (λ (lines : List (List ℕ)). y ∷ lines) rest.0, rest.1)

-- ---- lists of lines

pub same_lines : (x y : List ℕ) (xs ys : List (List ℕ)) → ◌≡◌ {A = List (List ℕ)} (x ∷ xs) (y ∷ ys) → (x ≡ y) × (xs ≡ ys)
same_lines x y xs ys e = (cc, cc)

-- lines that begin so, before others
pub split_by : (p : ℕ → Bool) (xs ys rest more : List (List ℕ)) → AllBegin p true xs → AllBegin p true ys → AllBegin p false rest → AllBegin p false more → xs ++ rest ≡ ys ++ more → (xs ≡ ys) × (rest ≡ more)
split_by p [] [] rest more a b c d e = (refl, e)
split_by p [] (y ∷ ys) [] more a b c d e = absurd (let f : ◌≡◌ {A = List (List ℕ)} [] (y ∷ (ys ++ more)) = e in cc)
split_by p [] (y ∷ ys) (r ∷ rest) more a b c d e = absurd (true≢false (sym b.0 ∙ ap (λ (line : List ℕ). p (first_of line)) (sym (same_lines r y rest (ys ++ more) e).0) ∙ c.0))
split_by p (x ∷ xs) [] rest [] a b c d e = absurd (let f : ◌≡◌ {A = List (List ℕ)} (x ∷ (xs ++ rest)) [] = e in cc)
split_by p (x ∷ xs) [] rest (m ∷ more) a b c d e = absurd (true≢false (sym a.0 ∙ ap (λ (line : List ℕ). p (first_of line)) (same_lines x m (xs ++ rest) more e).0 ∙ d.0))
split_by p (x ∷ xs) (y ∷ ys) rest more a b c d e =
    let both = same_lines x y (xs ++ rest) (ys ++ more) e in
    let others = split_by p xs ys rest more a.1 b.1 c d both.1 in
    (ap (λ (line : List ℕ). line ∷ xs) both.0 ∙ ap (λ (lines : List (List ℕ)). y ∷ lines) others.0, others.1)
