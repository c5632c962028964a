-- The entry at the place of a stream is that of the stream.
use Rattle.std.proofs.Common.{◌≡◌, ◌∙◌, ℕ, suc, ◌+◌, ◌==◌, not, cond, Bool, true, false, true≢false, List, [], ◌∷◌, length, Some, None, refl, sym, ap, subst, arith}
use Rattle.std.specs.Prelude.{nat_lt, slice_get}
use Rattle.std.specs.List.{prefix_len}
use Rattle.std.proofs.lemmas.Bool.{eqb-true}
use Rattle.std.proofs.lemmas.Option.{same_Some}
use Rattle.rtc_sctp_entries.specs.declared.stream_entry.StreamEntry.{StreamEntry}
use Rattle.rtc_sctp_entries.specs.Entries.{entry_place, is_entry_of}

no_entry : (e : StreamEntry) → None ≡ Some e → ⊥
no_entry e h = cc

-- what stands behind the longest prefix that passes a test does not pass it
behind_prefix : (p : StreamEntry → Bool) (es : List StreamEntry) (e : StreamEntry) → slice_get es (prefix_len p es) ≡ Some e → p e ≡ false
behind_prefix p [] e h = absurd (no_entry e h)
behind_prefix p (x ∷ es) e h = by (p x) refl h (λ k. behind_prefix p es e k)
  where
    by : (b : Bool) → p x ≡ b → slice_get (x ∷ es) (cond b (1 + prefix_len p es) 0) ≡ Some e → (slice_get es (prefix_len p es) ≡ Some e → p e ≡ false)
        → p e ≡ false
    by true c k rest =
        let next : 1 + prefix_len p es ≡ suc (prefix_len p es) = omega arith in
        rest (subst (λ (n : ℕ). slice_get (x ∷ es) n ≡ Some e) next k)
    by false c k rest = ap p (sym (same_Some x e k)) ∙ c

place_is : (n len place : ℕ) → cond (nat_lt n len) (Some n) None ≡ Some place → n ≡ place
place_is n len place h = by (nat_lt n len) h
  where
    no_place : None ≡ Some place → ⊥
    no_place k = cc

    by : (b : Bool) → cond b (Some n) None ≡ Some place → n ≡ place
    by true k = same_Some n place k
    by false k = absurd (no_place k)

passes_not : (n id : ℕ) → not (n == id) ≡ false → n ≡ id
passes_not n id h = by (n == id) refl h
  where
    by : (b : Bool) → (n == id) ≡ b → not b ≡ false → n ≡ id
    by true e k = eqb-true n id e
    by false e k = absurd (true≢false k)

pub place_number : (id place : ℕ) (es : List StreamEntry) (e : StreamEntry) → entry_place id es ≡ Some place → slice_get es place ≡ Some e → e.id ≡ id
place_number id place es e h at =
    let test : StreamEntry → Bool = λ x. not (is_entry_of id x) in
    let is : prefix_len test es ≡ place = place_is (prefix_len test es) (length es) place h in
    passes_not e.id id (behind_prefix test es e (subst (λ (n : ℕ). slice_get es n ≡ Some e) (sym is) at))
