-- What holds of each element of a list.
use Rattle.std.proofs.Common.{◌≡◌, zero, suc, ℕ, Bool, true, false, cond, List, [], ◌∷◌, ◌++◌, map, drop, Some}
use Rattle.std.specs.Prelude.{IfSome}
use Rattle.std.specs.List.{AllByRecursion, list_all, find}
use Rattle.rtc_wire_text.specs.Tokens.{is_token_byte}
use Rattle.rtc_wire_text.proofs.TokenLemmas.{both}

pub all-append : {A : Type 0} (P : A → Type 0) (xs ys : List A) → AllByRecursion P xs → AllByRecursion P ys → AllByRecursion P (xs ++ ys)
all-append P [] ys h k = k
all-append P (x ∷ xs) ys h k = (h.0, all-append P xs ys h.1 k)

pub all_behind : {A : Type 0} (P : A → Type 0) (xs ys : List A) → AllByRecursion P (xs ++ ys) → AllByRecursion P ys
all_behind P [] ys h = h
all_behind P (x ∷ xs) ys h = all_behind P xs ys h.1

pub all-drop : {A : Type 0} (P : A → Type 0) (n : ℕ) (xs : List A) → AllByRecursion P xs → AllByRecursion P (drop n xs)
all-drop P zero xs h = h
all-drop P (suc n) [] h = h
all-drop P (suc n) (x ∷ xs) h = all-drop P n xs h.1

pub all-map : {A B : Type 0} (P : A → Type 0) (Q : B → Type 0) (f : A → B) → ((x : A) → P x → Q (f x)) → (xs : List A) → AllByRecursion P xs → AllByRecursion Q (map f xs)
all-map P Q f each [] h = tt
all-map P Q f each (x ∷ xs) h = (each x h.0, all-map P Q f each xs h.1)

pub all-find : {A : Type 0} (P : A → Type 0) (test : A → Bool) (xs : List A) → AllByRecursion P xs → IfSome (find test xs) P
all-find P test [] h = tt
all-find {A} P test (x ∷ xs) h = by (test x) (all-find P test xs h.1)
  where
    by : (b : Bool) → IfSome (find test xs) P → IfSome (cond b (Some x) (find test xs)) P
    by true rest = h.0
    by false rest = rest

-- token bytes behind token bytes
pub all_token : (xs ys : List ℕ) → list_all is_token_byte xs ≡ true → list_all is_token_byte ys ≡ true → list_all is_token_byte (xs ++ ys) ≡ true
all_token [] ys h k = k
all_token (x ∷ xs) ys h k =
    let parts = both (is_token_byte x) (list_all is_token_byte xs) h in
    rw parts.0 (all_token xs ys parts.1 k)
