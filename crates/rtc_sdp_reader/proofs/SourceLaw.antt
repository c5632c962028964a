-- Sources are read back from the names and pairs that are written for them.
use Rattle.std.proofs.Common.{◌≡◌, ℕ, eqb, Bool, true, false, ◌||◌, List, [], ◌∷◌, Option, Some, None, refl, sym, ap, ◌∙◌, inl, inr}
use Rattle.std.specs.List.{AllByRecursion, filter_map}
use Rattle.std.proofs.lemmas.Bool.Decides.{eqb_tells}
use Rattle.rtc_wire_text.proofs.OnceLemmas.{each_once_apart}
use Rattle.rtc_sdp_values.specs.declared.ssrc.Ssrc.{Ssrc}
use Rattle.rtc_sdp_reader.specs.Sources.{rtx_of, is_rtx, source_named, sources}
use Rattle.rtc_sdp_reader.specs.PlainSources.{numbers_of, source_pairs, AreNumbersApart}

itself : (n : ℕ) → eqb n n ≡ true
itself n = elim (eqb_tells n n) [ inl (t, e) ↦ t | inr (f, ne) ↦ absurd (ne refl) ]

flip : (n m : ℕ) → eqb n m ≡ false → eqb m n ≡ false
flip n m h = elim (eqb_tells m n) [
  | inl (t, e) ↦ absurd (let bad : true ≡ false = sym (itself m) ∙ ap (λ (k : ℕ). eqb k m) e ∙ h in cc)
  | inr (f, ne) ↦ f
]

abbrev LackNumber : ℕ → List ℕ → Type 0
LackNumber n ns = AllByRecursion (λ y. eqb y n ≡ false) ns

-- a number that no source has is in no pair
unnamed : (n : ℕ) (rows : List (Ssrc × Option Ssrc)) → LackNumber n (numbers_of rows) → (is_rtx (source_pairs rows) n ≡ false) × (rtx_of (source_pairs rows) n ≡ None)
unnamed n [] h = (refl, refl)
unnamed n ((s, None) ∷ rest) h = unnamed n rest h.1
unnamed n ((s, Some r) ∷ rest) h = let k = unnamed n rest h.1.1 in (rw h.1.0 k.0, rw h.0 k.1)

-- what pairs say of a number of retransmissions
abbrev IsServed : List (Ssrc × Ssrc) → Option Ssrc → Type 0
IsServed pairs None = Unit {0}
IsServed pairs (Some r) = is_rtx pairs r.0 ≡ true

-- pairs give a source as it is
record Gives (pairs : List (Ssrc × Ssrc)) (source : Ssrc × Option Ssrc) : Type 0 where
  alone : is_rtx pairs source.0.0 ≡ false
  rtx : rtx_of pairs source.0.0 ≡ source.1
  served : IsServed pairs source.1

or_true : (b : Bool) → (b || true) ≡ true
or_true true = refl
or_true false = refl

-- one more pair, of numbers that a source has not
further : (n r : Ssrc) (pairs : List (Ssrc × Ssrc)) (s : Ssrc) (t : Option Ssrc) → eqb r.0 s.0 ≡ false → eqb n.0 s.0 ≡ false → Gives pairs (s, t) → Gives ((n, r) ∷ pairs) (s, t)
further n r pairs s None other apart g = record { alone = rw other g.alone; rtx = rw apart g.rtx; served = tt }
further n r pairs s (Some u) other apart g = record { alone = rw other g.alone; rtx = rw apart g.rtx; served = rw g.served (or_true (eqb r.0 u.0)) }

all_further : (n r : Ssrc) (pairs : List (Ssrc × Ssrc)) (rows : List (Ssrc × Option Ssrc)) → LackNumber n.0 (numbers_of rows) → LackNumber r.0 (numbers_of rows) → AllByRecursion (Gives pairs) rows → AllByRecursion (Gives ((n, r) ∷ pairs)) rows
all_further n r pairs [] h k g = tt
all_further n r pairs ((s, None) ∷ rest) h k g = (further n r pairs s None (flip s.0 r.0 k.0) (flip s.0 n.0 h.0) g.0, all_further n r pairs rest h.1 k.1 g.1)
all_further n r pairs ((s, Some u) ∷ rest) h k g = (further n r pairs s (Some u) (flip s.0 r.0 k.0) (flip s.0 n.0 h.0) g.0, all_further n r pairs rest h.1.1 k.1.1 g.1)

all_given : (rows : List (Ssrc × Option Ssrc)) → AreNumbersApart rows → AllByRecursion (Gives (source_pairs rows)) rows
all_given [] h = tt
all_given ((n, None) ∷ rest) h = let k = unnamed n.0 rest h.0 in (record { alone = k.0; rtx = k.1; served = tt }, all_given rest h.1)
all_given ((n, Some r) ∷ rest) h =
    let k = unnamed n.0 rest h.0.1 in
    (record { alone = rw h.0.0 k.0; rtx = rw (itself n.0) refl; served = rw (itself r.0) refl }, all_further n r (source_pairs rest) rest h.0.1 h.1.0 (all_given rest h.1.1))

rows_again : (pairs : List (Ssrc × Ssrc)) (rows : List (Ssrc × Option Ssrc)) → AllByRecursion (Gives pairs) rows → filter_map (source_named pairs) (numbers_of rows) ≡ rows
rows_again pairs [] g = refl
rows_again pairs ((n, None) ∷ rest) g = rw (g.0.alone, g.0.rtx, rows_again pairs rest g.1) refl
rows_again pairs ((n, Some r) ∷ rest) g = rw (g.0.alone, g.0.rtx, g.0.served, rows_again pairs rest g.1) refl

pub sources_again : (rows : List (Ssrc × Option Ssrc)) → AreNumbersApart rows → sources (numbers_of rows) (source_pairs rows) ≡ rows
unfolding sources
sources_again rows h = ap (filter_map (source_named (source_pairs rows))) (each_once_apart eqb eqb_tells (numbers_of rows) h) ∙ rows_again (source_pairs rows) rows (all_given rows h)
