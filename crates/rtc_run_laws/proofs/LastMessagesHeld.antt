-- Behind a message that is not empty, a buffered amount of 0 says that no data of the generation of the stream is unacknowledged.
use Rattle.std.proofs.Common.{◌≡◌, ◌∙◌, ◌≤◌, ◌<◌, ◌++◌, ◌∷◌, ◌==◌, ◌&&◌, cond, ℕ, Bool, true, false, true≢false, List, [], length, append-nil, refl, sym, ap, subst, arith}
use Rattle.std.specs.Prelude.{nat_lt}
use Rattle.std.proofs.lemmas.Bool.{eqb-true}
use Rattle.rtc_parts.specs.declared.ppi.Ppi.{Ppi}
use Rattle.rtc_parts.specs.declared.ppi.Ppi.TheVariants as ppi
use Rattle.rtc_parts.specs.AssociationActs.{AssociationAct, Wrote, Given, Acted, Moved}
use Rattle.rtc_parts.specs.AssociationWords.{AssociationMessage, written}
use Rattle.rtc_parts.specs.Ppi.{ppi_of}
use Rattle.rtc_parts.proofs.AssociationLemmas.{adds_all, generation_rises, written-append}
use Rattle.rtc_assoc_state.specs.Contents.{Contents, buffered_of, generation_of, has_stream}
use Rattle.rtc_assoc_state.specs.Outbox.{buffered}
use Rattle.rtc_assoc_state.specs.PlainMeaning.{plain_meaning}
use Rattle.rtc_assoc_state.proofs.PlainLaws.{plain_laws}
use Rattle.rtc_sctp_laws.specs.Contents.{content_of, contents_by}
use Rattle.rtc_sctp_laws.specs.GenerationLaws.{KeepsGeneration}
use Rattle.rtc_sctp_laws.proofs.ContentLemmas.{contents_by-append}
use Rattle.rtc_sctp_laws.proofs.KnownUses.{write_facts}
use Rattle.rtc_sctp_laws.proofs.PlainGenerations.{plain_generations}
use Rattle.rtc_run_laws.specs.AcknowledgedData.{carries_data, ends_with_bytes, has_unacknowledged_data}
use Rattle.rtc_run_laws.proofs.LastActs.{act_full, act_lasts, writes_data}
use Rattle.rtc_run_laws.proofs.LastItems.{EndsFull, are_data, full_counted}

both_true : (a b : Bool) → (a && b) ≡ true → (a ≡ true) × (b ≡ true)
both_true true b h = (refl, h)
both_true false b h = absurd (true≢false (sym h))

-- ---- the last of messages

abbrev Sent : Type 0
Sent = List (Bool × List ℕ)

ends_append : (xs : Sent) (x : Bool × List ℕ) (l : Sent) → ends_with_bytes (xs ++ x ∷ l) ≡ ends_with_bytes (x ∷ l)
ends_append [] x l = refl
ends_append (y ∷ []) x l = refl
ends_append (y ∷ z ∷ xs) x l = ends_append (z ∷ xs) x l

none_first : (xs ys : Sent) → xs ++ ys ≡ [] → (xs ≡ []) × (ys ≡ [])
none_first [] ys h = (refl, h)
none_first (x ∷ xs) ys h = absurd (no_cons (xs ++ ys) h)
  where
    no_cons : (l : Sent) → x ∷ l ≡ [] → ⊥
    no_cons l k = cc

some_sent : (x : Bool × List ℕ) (l : Sent) → x ∷ l ≡ [] → ⊥
some_sent x l h = cc

-- what one message carries
none_carried : (p : Ppi) (bytes : List ℕ) → content_of p bytes ++ [] ≡ [] → carries_data p ≡ false
none_carried ppi.Dcep bytes h = refl
none_carried ppi.Text bytes h = absurd (some_sent _ _ h)
none_carried ppi.Binary bytes h = absurd (some_sent _ _ h)
none_carried ppi.EmptyText bytes h = absurd (some_sent _ _ h)
none_carried ppi.EmptyBinary bytes h = absurd (some_sent _ _ h)
none_carried (ppi.Other n) bytes h = refl

bytes_carried : (p : Ppi) (bytes : List ℕ) → ends_with_bytes (content_of p bytes ++ []) ≡ true → (carries_data p ≡ true) × (nat_lt 0 (length bytes) ≡ true)
bytes_carried ppi.Dcep bytes h = absurd (true≢false (sym h))
bytes_carried ppi.Text bytes h = (refl, h)
bytes_carried ppi.Binary bytes h = (refl, h)
bytes_carried ppi.EmptyText bytes h = absurd (true≢false (sym h))
bytes_carried ppi.EmptyBinary bytes h = absurd (true≢false (sym h))
bytes_carried (ppi.Other n) bytes h = absurd (true≢false (sym h))

-- what acts wrote to a generation of a stream, for users
abbrev carried : (s g : ℕ) → List AssociationAct → Sent
carried s g acts = contents_by (written s g acts)

carried-append : (s g : ℕ) (act : AssociationAct) (acts : List AssociationAct) → carried s g (act ∷ acts) ≡ carried s g (act ∷ []) ++ carried s g acts
carried-append s g act acts = ap contents_by (written-append s g (act ∷ []) acts) ∙ contents_by-append (written s g (act ∷ [])) (written s g acts)

module _ (s g : ℕ) where
  -- the stream is there, and its last unacknowledged item with data carries bytes
  record Held (p : Contents) : Type 0 where
    there : has_stream p s ≡ true
    full : EndsFull s g p.outbox.items

  kept : (a b : Contents) (act : AssociationAct) → Acted plain_meaning a act b → generation_of b s ≡ generation_of a s → KeepsGeneration plain_meaning s a b
  kept a b (Given bytes) h same = plain_generations.packets_keep s h.0 bytes a b h.1.0 h.1.1 same
  kept a b act h same = plain_generations.acts_keep s a b act refl h

  rises : (acts : List AssociationAct) (a b : Contents) → Moved plain_meaning a acts b → generation_of a s ≤ generation_of b s
  rises acts a b h = let all = (adds_all plain_meaning plain_laws a b acts h).rises s in omega (arith, all)

  -- the generation between two states that have it
  between : (act : AssociationAct) (acts : List AssociationAct) (a c b : Contents) → Acted plain_meaning a act c → Moved plain_meaning c acts b
      → generation_of a s ≡ g → generation_of b s ≡ g → generation_of c s ≡ g
  between act acts a c b one rest first last =
      let up = generation_rises plain_meaning plain_laws a c act s one in
      let more = rises acts c b rest in
      omega (arith, up, more, first, last)

  -- an act that writes no data to the generation
  quiet : (act : AssociationAct) → carried s g (act ∷ []) ≡ [] → writes_data s g act ≡ false
  quiet (Wrote t n i bytes) none = by ((t == s) && (n == g)) none
    where
      by : (b : Bool) → contents_by (cond {A = List AssociationMessage} b (record { identifier = i; bytes = bytes } ∷ []) []) ≡ [] → (b && carries_data (ppi_of i)) ≡ false
      by true k = none_carried (ppi_of i) bytes k
      by false k = refl
  quiet act none = refl

  held_on : (acts : List AssociationAct) (a b : Contents) → Moved plain_meaning a acts b → generation_of a s ≡ g → generation_of b s ≡ g → carried s g acts ≡ []
      → Held a → Held b
  held_on [] a b h first last none k = subst (λ (x : Contents). Held x) (sym h) k
  held_on (act ∷ acts) a b h first last none k =
      let parts = none_first (carried s g (act ∷ [])) (carried s g acts) (sym (carried-append s g act acts) ∙ none) in
      let mid = between act acts a h.0 b h.1.0 h.1.1 first last in
      held_on acts h.0 b h.1.1 mid last parts.1 (record {
        there = (kept a h.0 act h.1.0 (mid ∙ sym first)).there k.there;
        full = act_lasts s g a h.0 act h.1.0 (quiet act parts.0) k.full;
      })

  -- an act that writes a message which is not empty
  first_held : (act : AssociationAct) (a c : Contents) → Acted plain_meaning a act c → ends_with_bytes (carried s g (act ∷ [])) ≡ true
      → Held c × (generation_of c s ≡ g)
  first_held (Wrote t n i bytes) a c h ends = by ((t == s) && (n == g)) refl ends
    where
      held : ((t == s) && (n == g)) ≡ true → t ≡ s → n ≡ g → (carries_data (ppi_of i) ≡ true) × (nat_lt 0 (length bytes) ≡ true) → Held c × (generation_of c s ≡ g)
      held both is own data_is =
          let here : Acted plain_meaning a (Wrote s n i bytes) c = subst (λ (x : ℕ). Acted plain_meaning a (Wrote x n i bytes) c) is h in
          let keeps = plain_generations.acts_keep s a c (Wrote s n i bytes) refl here in
          let more : nat_lt 0 (length bytes) ≡ true = data_is.1 in
          let some : 0 < length bytes = grind (arith, more) in
          let facts = write_facts plain_meaning plain_laws plain_generations s a c here.0 bytes here.1.0 here.1.1.0 in
          let all : are_data s g t n i ≡ true = rw (both, data_is.0) refl in
          (record { there = keeps.there facts.0; full = act_full s g a c t n i bytes h all some }, keeps.generation_is ∙ sym here.1.1.2 ∙ own)

      by : (b : Bool) → ((t == s) && (n == g)) ≡ b
          → ends_with_bytes (contents_by (cond {A = List AssociationMessage} b (record { identifier = i; bytes = bytes } ∷ []) [])) ≡ true → Held c × (generation_of c s ≡ g)
      by true e k = let two = both_true (t == s) (n == g) e in held e (eqb-true t s two.0) (eqb-true n g two.1) (bytes_carried (ppi_of i) bytes k)
      by false e k = absurd (true≢false (sym k))
  first_held act a c h ends = absurd (true≢false (sym ends))

  ends_held : (acts : List AssociationAct) (a b : Contents) → Moved plain_meaning a acts b → generation_of b s ≡ g → ends_with_bytes (carried s g acts) ≡ true → Held b
  ends_held [] a b h last ends = absurd (true≢false (sym ends))
  ends_held (act ∷ acts) a b h last ends =
      by (carried s g acts) refl (ap ends_with_bytes (sym (carried-append s g act acts)) ∙ ends) (ends_held acts h.0 b h.1.1 last)
    where
      by : (l : Sent) → carried s g acts ≡ l → ends_with_bytes (carried s g (act ∷ []) ++ carried s g acts) ≡ true
          → (ends_with_bytes (carried s g acts) ≡ true → Held b) → Held b
      by [] none k rest =
          let alone : ends_with_bytes (carried s g (act ∷ [])) ≡ true =
          ap ends_with_bytes (sym (append-nil (carried s g (act ∷ [])))) ∙ ap (λ (l : Sent). ends_with_bytes (carried s g (act ∷ []) ++ l)) (sym none) ∙ k in
          let first = first_held act a h.0 h.1.0 alone in
          held_on acts h.0 b h.1.1 first.1 last none first.0
      by (x ∷ l) some k rest =
          rest
          (ap ends_with_bytes some ∙ sym (ends_append (carried s g (act ∷ [])) x l)
          ∙ ap (λ (y : Sent). ends_with_bytes (carried s g (act ∷ []) ++ y)) (sym some) ∙ k)

pub amount_zero : (a p : Contents) (acts : List AssociationAct) (s g : ℕ) → Moved plain_meaning a acts p → generation_of p s ≡ g
    → ends_with_bytes (contents_by (written s g acts)) ≡ true → buffered_of p s ≡ 0 → has_unacknowledged_data s g p.outbox.items ≡ false
amount_zero a p acts s g h own ends none =
    let k = ends_held s g acts a p h own ends in
    full_counted s g p.outbox.items k.full (ap (λ (b : Bool). cond b (buffered s p.outbox.items) 0) (sym k.there) ∙ none)
