-- The one entry of a stream, where entries are set, put in and dropped.
use Rattle.std.proofs.Common.{◌≡◌, ℕ, zero, suc, ◌==◌, not, cond, Bool, true, false, List, [], ◌∷◌, ◌++◌, take, drop, insert, Some, None, refl, sym, ap, subst, ◌∙◌, arith}
use Rattle.std.specs.Prelude.{slice_get, slice_set}
use Rattle.std.proofs.lemmas.Bool.{eqb-true, eqb-false}
use Rattle.std.proofs.lemmas.List.{take-append-drop}
use Rattle.std.proofs.lemmas.List.Elements.{filter-append}
use Rattle.std.proofs.lemmas.Option.{same_Some}
use Rattle.rtc_sctp_entries.specs.declared.stream_entry.StreamEntry.{StreamEntry}
use Rattle.rtc_sctp_entries.specs.Entries.{is_entry_of, is_closed_state, unclosed}
use Rattle.rtc_sctp_laws.specs.StreamUses.{OneAtMost, entries_of}
use Rattle.rtc_sctp_laws.proofs.EntriesOf.{no_entries, entries_own, entries_other, same_test, none_head, none_set, none_unclosed}

no_entry : (e : StreamEntry) → None ≡ Some e → ⊥
no_entry e h = cc

pub one_only : (N : Type 0) (P : StreamEntry → Type 0) (e : StreamEntry) (l : List StreamEntry) → OneAtMost N P (e ∷ l) → (l ≡ []) × P e
one_only N P e [] h = (refl, h)
one_only N P e (f ∷ l) h = absurd h

pub one_is : (N : Type 0) (P : StreamEntry → Type 0) (l l' : List StreamEntry) → l' ≡ l → OneAtMost N P l → OneAtMost N P l'
one_is N P l l' e h = subst (λ (x : List StreamEntry). OneAtMost N P x) (sym e) h

pub one_map : (N N' : Type 0) (P P' : StreamEntry → Type 0) (l : List StreamEntry) → (N → N') → ((e : StreamEntry) → P e → P' e) → OneAtMost N P l → OneAtMost N' P' l
one_map N N' P P' [] f g h = f h
one_map N N' P P' (e ∷ []) f g h = g e h
one_map N N' P P' (e ∷ d ∷ l) f g h = h

pub one_set : (N : Type 0) (P : StreamEntry → Type 0) (s : ℕ) (es : List StreamEntry) (i : ℕ) (e e' : StreamEntry) → slice_get es i ≡ Some e → e'.id ≡ e.id → (P e → P e') → OneAtMost N P (entries_of s es) → OneAtMost N P (entries_of s (slice_set es i e'))
one_set N P s [] i e e' at same keeps h = absurd (no_entry e at)
one_set N P s (x ∷ xs) zero e e' at same keeps h = by (x.id == s) refl
  where
    is : x ≡ e
    is = same_Some x e at

    id : e'.id ≡ x.id
    id = same ∙ ap (λ (y : StreamEntry). y.id) (sym is)

    by : (b : Bool) → (x.id == s) ≡ b → OneAtMost N P (entries_of s (e' ∷ xs))
    by true c =
        let one = one_only N P x (entries_of s xs) (one_is N P _ _ (sym (entries_own s x xs c)) h) in
        one_is N P (e' ∷ []) _ (entries_own s e' xs (same_test x.id e'.id s true id c) ∙ ap (λ (l : List StreamEntry). e' ∷ l) one.0) (keeps (subst P is one.1))
    by false c = one_is N P _ _ (entries_other s e' xs (same_test x.id e'.id s false id c) ∙ sym (entries_other s x xs c)) h
one_set N P s (x ∷ xs) (suc i) e e' at same keeps h = by (x.id == s) refl (λ k. one_set N P s xs i e e' at same keeps k)
  where
    by : (b : Bool) → (x.id == s) ≡ b → (OneAtMost N P (entries_of s xs) → OneAtMost N P (entries_of s (slice_set xs i e'))) → OneAtMost N P (entries_of s (x ∷ slice_set xs i e'))
    by true c rest =
        let one = one_only N P x (entries_of s xs) (one_is N P _ _ (sym (entries_own s x xs c)) h) in
        one_is N P (x ∷ []) _ (entries_own s x (slice_set xs i e') c ∙ ap (λ (l : List StreamEntry). x ∷ l) (none_set s xs i e e' at same one.0)) one.1
    by false c rest = one_is N P _ _ (entries_other s x (slice_set xs i e') c) (rest (one_is N P _ _ (sym (entries_other s x xs c)) h))

pub one_insert : (N : Type 0) (P : StreamEntry → Type 0) (s : ℕ) (es : List StreamEntry) (i : ℕ) (e : StreamEntry) → entries_of e.id es ≡ [] → (e.id ≡ s → N → P e) → OneAtMost N P (entries_of s es) → OneAtMost N P (entries_of s (insert es i e))
one_insert N P s es i e none keeps h = by (e.id == s) refl
  where
    parts : entries_of s (take i es) ++ entries_of s (drop i es) ≡ entries_of s es
    parts = sym (filter-append (is_entry_of s) (take i es) (drop i es)) ∙ ap (entries_of s) (take-append-drop i es)

    whole : entries_of s (insert es i e) ≡ entries_of s (take i es) ++ entries_of s (e ∷ drop i es)
    whole = filter-append (is_entry_of s) (take i es) (e ∷ drop i es)

    nothing : (xs ys : List StreamEntry) → xs ++ ys ≡ [] → (xs ≡ []) × (ys ≡ [])
    nothing [] ys k = (refl, k)
    nothing (x ∷ xs) ys k = absurd (no_entries x (xs ++ ys) k)

    by : (b : Bool) → (e.id == s) ≡ b → OneAtMost N P (entries_of s (insert es i e))
    by true c =
        let same : e.id ≡ s = eqb-true e.id s c in
        let empty : entries_of s es ≡ [] = subst (λ (n : ℕ). entries_of n es ≡ []) same none in
        let two = nothing (entries_of s (take i es)) (entries_of s (drop i es)) (parts ∙ empty) in
        one_is N P (e ∷ []) _
        (whole ∙ ap (λ (l : List StreamEntry). l ++ entries_of s (e ∷ drop i es)) two.0 ∙ entries_own s e (drop i es) c ∙ ap (λ (l : List StreamEntry). e ∷ l) two.1)
        (keeps same (one_is N P _ [] (sym empty) h))
    by false c = one_is N P _ _ (whole ∙ ap (λ (l : List StreamEntry). entries_of s (take i es) ++ l) (entries_other s e (drop i es) c) ∙ parts) h

pub one_unclosed : (N : Type 0) (P : StreamEntry → Type 0) (s : ℕ) (es : List StreamEntry) → ((e : StreamEntry) → not (is_closed_state e.state) ≡ false → P e → N) → OneAtMost N P (entries_of s es) → OneAtMost N P (entries_of s (unclosed es))
one_unclosed N P s [] drops h = h
one_unclosed N P s (x ∷ xs) drops h = by (x.id == s) refl (not (is_closed_state x.state)) refl (λ k. one_unclosed N P s xs drops k)
  where
    by : (b : Bool) → (x.id == s) ≡ b → (o : Bool) → not (is_closed_state x.state) ≡ o → (OneAtMost N P (entries_of s xs) → OneAtMost N P (entries_of s (unclosed xs))) → OneAtMost N P (entries_of s (cond o (x ∷ unclosed xs) (unclosed xs)))
    by true c true o rest =
        let one = one_only N P x (entries_of s xs) (one_is N P _ _ (sym (entries_own s x xs c)) h) in
        one_is N P (x ∷ []) _ (entries_own s x (unclosed xs) c ∙ ap (λ (l : List StreamEntry). x ∷ l) (none_unclosed s xs one.0)) one.1
    by true c false o rest =
        let one = one_only N P x (entries_of s xs) (one_is N P _ _ (sym (entries_own s x xs c)) h) in
        one_is N P [] _ (none_unclosed s xs one.0) (drops x o one.1)
    by false c true o rest = one_is N P _ _ (entries_other s x (unclosed xs) c) (rest (one_is N P _ _ (sym (entries_other s x xs c)) h))
    by false c false o rest = rest (one_is N P _ _ (sym (entries_other s x xs c)) h)

-- an entry of a stream is another one, and what is asked of the entries changes
got_none : (s : ℕ) (es : List StreamEntry) (i : ℕ) (e : StreamEntry) → slice_get es i ≡ Some e → entries_of s es ≡ [] → e.id ≡ s → ⊥
got_none s [] i e at none same = no_entry e at
got_none s (x ∷ xs) zero e at none same =
    let test : (x.id == s) ≡ true = ap (λ (y : StreamEntry). y.id == s) (same_Some x e at) ∙ (let k : (e.id == s) ≡ true = grind (arith, same) in k) in
    no_entries x (entries_of s xs) (sym (entries_own s x xs test) ∙ none)
got_none s (x ∷ xs) (suc i) e at none same = got_none s xs i e at (none_head s x xs none).1 same

pub one_set_to : (N N' : Type 0) (P P' : StreamEntry → Type 0) (s : ℕ) (es : List StreamEntry) (i : ℕ) (e e' : StreamEntry) → slice_get es i ≡ Some e → e'.id ≡ e.id
    → (N → N') → ((x : StreamEntry) → (e.id ≡ s → ⊥) → P x → P' x) → (e.id ≡ s → P e → P' e') → OneAtMost N P (entries_of s es) → OneAtMost N' P' (entries_of s (slice_set es i e'))
one_set_to N N' P P' s [] i e e' at same f g k h = absurd (no_entry e at)
one_set_to N N' P P' s (x ∷ xs) zero e e' at same f g k h = by (x.id == s) refl
  where
    is : x ≡ e
    is = same_Some x e at

    own_id : e.id ≡ x.id
    own_id = ap (λ (y : StreamEntry). y.id) (sym is)

    id : e'.id ≡ x.id
    id = same ∙ own_id

    by : (b : Bool) → (x.id == s) ≡ b → OneAtMost N' P' (entries_of s (e' ∷ xs))
    by true c =
        let one = one_only N P x (entries_of s xs) (one_is N P _ _ (sym (entries_own s x xs c)) h) in
        one_is N' P' (e' ∷ []) _ (entries_own s e' xs (same_test x.id e'.id s true id c) ∙ ap (λ (l : List StreamEntry). e' ∷ l) one.0) (k (own_id ∙ eqb-true x.id s c) (subst P is one.1))
    by false c =
        let ne : e.id ≡ s → ⊥ = λ q. eqb-false x.id s c (sym own_id ∙ q) in
        one_is N' P' _ _ (entries_other s e' xs (same_test x.id e'.id s false id c)) (one_map N N' P P' (entries_of s xs) f (λ y. g y ne) (one_is N P _ _ (sym (entries_other s x xs c)) h))
one_set_to N N' P P' s (x ∷ xs) (suc i) e e' at same f g k h = by (x.id == s) refl (λ q. one_set_to N N' P P' s xs i e e' at same f g k q)
  where
    by : (b : Bool) → (x.id == s) ≡ b → (OneAtMost N P (entries_of s xs) → OneAtMost N' P' (entries_of s (slice_set xs i e'))) → OneAtMost N' P' (entries_of s (x ∷ slice_set xs i e'))
    by true c rest =
        let one = one_only N P x (entries_of s xs) (one_is N P _ _ (sym (entries_own s x xs c)) h) in
        one_is N' P' (x ∷ []) _ (entries_own s x (slice_set xs i e') c ∙ ap (λ (l : List StreamEntry). x ∷ l) (none_set s xs i e e' at same one.0)) (g x (λ q. got_none s xs i e at one.0 q) one.1)
    by false c rest = one_is N' P' _ _ (entries_other s x (slice_set xs i e') c) (rest (one_is N P _ _ (sym (entries_other s x xs c)) h))
