-- Words that are the decimals of sizes.
use Rattle.std.proofs.Common.{ℕ, zero, suc, ◌≡◌, ◌≤◌, ◌<◌, ◌^◌, List, [], ◌∷◌, ◌++◌, length, map, get_or, drop, ◌+◌, ◌∙◌, ap, sym, subst, arith, append_assoc, append-nil, codes, Option, Some, None, Result, Ok, Err}
use Rattle.std.specs.Prelude.{IfOk, OnErr, MatchOption}
use Rattle.std.proofs.Math.Seq.{drop-cons}
use Rattle.std.specs.List.{All}
use Rattle.std.specs.Fmt.{decimal}
use Rattle.std.proofs.lemmas.Fmt.{decimal_injective}
use Rattle.std.proofs.lemmas.List.{map-append}
use Rattle.std.proofs.lemmas.List.Elements.{All-append}
use Rattle.rtc_files.specs.Asking.{AreSizes, AskFor, AskForSessions}

abbrev pub IsSmall : ℕ → Type 0
IsSmall size = size < 2 ^ 32

-- the words of so many sizes, and the words behind them
pub record HasSizes (words : List (List ℕ)) (sizes : List ℕ) (rest : List (List ℕ)) : Type 0 where
  pub decimals : words ≡ map decimal sizes ++ rest
  pub small : All IsSmall sizes

pub no_sizes : (words : List (List ℕ)) → HasSizes words [] words
no_sizes words = record { decimals = ap (λ (ws : List (List ℕ)). ws) (λ i. words); small = λ k d below. absurd (omega arith) }

all_one : (size : ℕ) → IsSmall size → (k d : ℕ) → k < 1 → IsSmall (get_or (size ∷ []) k d)
all_one size small zero d below = small
all_one size small (suc k) d below = absurd (omega arith)

-- one word more
pub size_more : (words rest : List (List ℕ)) (word : List ℕ) (sizes : List ℕ) (size : ℕ) → HasSizes words sizes (word ∷ rest) → word ≡ decimal size → IsSmall size → HasSizes words (sizes ++ size ∷ []) rest
size_more words rest word sizes size has is small = record {
  decimals = has.decimals ∙ ap (λ w. map decimal sizes ++ (w ∷ rest)) is
      ∙ sym (ap (λ front. front ++ rest) (map-append decimal sizes (size ∷ [])) ∙ append_assoc (map decimal sizes) (decimal size ∷ []) rest);
  small = All-append IsSmall sizes (size ∷ []) has.small (all_one size small);
}

-- no word more
pub are_sizes : (words rest : List (List ℕ)) (sizes : List ℕ) → HasSizes words sizes rest → rest ≡ [] → AreSizes words sizes
are_sizes words rest sizes has none = record {
  decimals = has.decimals ∙ ap (λ r. map decimal sizes ++ r) none ∙ append-nil (map decimal sizes);
  small = has.small;
}

tail : List (List ℕ) → List (List ℕ)
tail [] = []
tail (x ∷ xs) = xs

head : List (List ℕ) → List ℕ
head [] = []
head (x ∷ xs) = x

-- a word among decimals is one
word_among : (before rest : List (List ℕ)) (word : List ℕ) (sizes : List ℕ) → map decimal sizes ≡ before ++ word ∷ rest → All IsSmall sizes → (size : ℕ) × IsSmall size × (word ≡ decimal size)
unfolding tail head
word_among [] rest word [] same small = let size : zero ≡ suc (length rest) = ap length same in absurd (omega arith)
word_among [] rest word (size ∷ sizes) same small = (size, small zero zero (omega arith), sym (ap head same))
word_among (first ∷ before) rest word [] same small = let size : zero ≡ suc (length (before ++ word ∷ rest)) = ap length same in absurd (omega arith)
word_among (first ∷ before) rest word (size ∷ sizes) same small = word_among before rest word sizes (ap tail same) (λ k d below. small (suc k) d (omega arith))

-- a word that is no decimal is not among them
pub not_sizes : (words rest : List (List ℕ)) (word : List ℕ) (sizes : List ℕ) → HasSizes words sizes (word ∷ rest) → ((size : ℕ) → size < 2 ^ 32 → word ≡ decimal size → ⊥) → (others : List ℕ) → AreSizes words others → ⊥
not_sizes words rest word sizes has none others are =
    let found : (size : ℕ) × IsSmall size × (word ≡ decimal size) = word_among (map decimal sizes) rest word others (sym are.decimals ∙ has.decimals) are.small in
    none found.0 found.1 found.2

-- a greater number has another decimal
pub other_decimal : (word : List ℕ) (n : ℕ) → word ≡ decimal n → n < 2 ^ 64 → 2 ^ 32 ≤ n → (size : ℕ) → size < 2 ^ 32 → word ≡ decimal size → ⊥
other_decimal word n is fits great size small same = let e : n ≡ size = decimal_injective n size fits (omega arith) (sym is ∙ same) in omega arith

-- the word at a place, and those behind it
pub word_here : {A : Type 0} (f : A → List ℕ) (words : List A) (i : ℕ) (word : A) → i < length words → get_or words i word ≡ word → map f (drop i words) ≡ f word ∷ map f (drop (i + 1) words)
word_here {A} f words i word below here = let e : i + 1 ≡ suc i = omega arith in rw e (ap (map f) (drop-cons words i word below) ∙ ap (λ (w : A). f w ∷ map f (drop (suc i) words)) here)

pub has_here : (words rest rest' : List (List ℕ)) (sizes : List ℕ) → HasSizes words sizes rest → rest ≡ rest' → HasSizes words sizes rest'
has_here words rest rest' sizes has same = subst (HasSizes words sizes) same has

same_rest : (words rest : List (List ℕ)) (sizes : List ℕ) → words ≡ codes "run" ∷ rest → (asks : AskFor words sizes) → AreSizes rest sizes
unfolding tail
same_rest words rest sizes run asks = subst (λ (r : List (List ℕ)). AreSizes r sizes) (ap tail (sym asks.run ∙ run)) asks.each

-- what words ask for, by what stands behind `run`
pub asked_sizes : {V E : Type 0} (items : V → List ℕ) (words rest : List (List ℕ)) → words ≡ codes "run" ∷ rest → 0 < length rest → length rest ≤ 1000
    → (r : Result (Option V) E) → IfOk r (λ read. MatchOption read (¬ ((sizes : List ℕ) × AreSizes rest sizes)) (λ sizes. AreSizes rest (items sizes)))
    → IfOk r (λ read. MatchOption read (¬ (AskForSessions words)) (λ sizes. AskFor words (items sizes)))
asked_sizes items words rest run some most (Ok None) none = λ asks. none (asks.0, same_rest words rest asks.0 run asks.1)
asked_sizes items words rest run some most (Ok (Some sizes)) each = record { rest = rest; run = run; each = each; some = some; most = most }
asked_sizes items words rest run some most (Err why) none = tt

pub asked_lacking : {V E : Type 0} (words rest : List (List ℕ)) → words ≡ codes "run" ∷ rest → 0 < length rest → length rest ≤ 1000
    → (r : Result V E) → OnErr r ((sizes : List ℕ) × AreSizes rest sizes) → OnErr r (AskForSessions words)
asked_lacking words rest run some most (Ok read) each = tt
asked_lacking words rest run some most (Err why) each = (each.0, record { rest = rest; run = run; each = each.1; some = some; most = most })
