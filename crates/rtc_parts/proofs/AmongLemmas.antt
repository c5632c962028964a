-- Members of lists, and lists whose members are in others.
use Rattle.std.proofs.Common.{◌≡◌, ◌<◌, ◌⊎◌, ℕ, zero, suc, inl, inr, List, [], ◌∷◌, ◌++◌, length, get_or, arith}
use Rattle.rtc_parts.specs.Among.{Member, Among}

-- a member of two lists joined is one of either
pub member-append : {A : Type 0} (x : A) (xs ys : List A) → Member x (xs ++ ys) → Member x xs ⊎ Member x ys
member-append x [] ys m = inr m
member-append x (y ∷ xs) ys (inl e) = inl (inl e)
member-append x (y ∷ xs) ys (inr m) = elim (member-append x xs ys m) [ inl h ↦ inl (inr h) | inr h ↦ inr h ]

pub member-left : {A : Type 0} (x : A) (xs ys : List A) → Member x xs → Member x (xs ++ ys)
member-left x [] ys m = absurd m
member-left x (y ∷ xs) ys (inl e) = inl e
member-left x (y ∷ xs) ys (inr m) = inr (member-left x xs ys m)

pub member-right : {A : Type 0} (x : A) (xs ys : List A) → Member x ys → Member x (xs ++ ys)
member-right x [] ys m = m
member-right x (y ∷ xs) ys m = inr (member-right x xs ys m)

-- what stands at a place is a member
pub member_at : {A : Type 0} (xs : List A) (i : ℕ) (x : A) → i < length xs → x ≡ get_or xs i x → Member x xs
member_at [] i x h e = absurd (omega arith)
member_at (y ∷ xs) zero x h e = inl e
member_at (y ∷ xs) (suc i) x h e = inr (member_at xs i x (omega (arith, h)) e)

pub among_none : {A : Type 0} (ys : List A) → Among [] ys
among_none ys = record { each = λ x m. absurd m }

pub among_self : {A : Type 0} (xs : List A) → Among xs xs
among_self xs = record { each = λ x m. m }

pub among_then : {A : Type 0} (xs ys zs : List A) → Among xs ys → Among ys zs → Among xs zs
among_then xs ys zs h k = record { each = λ x m. k.each x (h.each x m) }

pub among_more : {A : Type 0} (xs ys zs : List A) → Among xs ys → Among xs (ys ++ zs)
among_more xs ys zs h = record { each = λ x m. member-left x ys zs (h.each x m) }

pub among_join : {A : Type 0} (xs ys zs : List A) → Among xs zs → Among ys zs → Among (xs ++ ys) zs
among_join xs ys zs h k = record { each = λ x m. elim (member-append x xs ys m) [ inl n ↦ h.each x n | inr n ↦ k.each x n ] }
