-- What is read of a stream by acts that give no packet is of the generation that the stream has behind them.
use Rattle.std.proofs.Common.{◌≡◌, ◌∙◌, ℕ, ◌==◌, ◌||◌, ◌&&◌, not, Bool, true, false, List, [], ◌∷◌, map, refl, sym, ap, arith}
use Rattle.std.proofs.lemmas.Bool.{eqb-true}
use Rattle.rtc_parts.specs.AssociationActs.{AssociationAct, Given, Read, Moved}
use Rattle.rtc_parts.specs.AssociationMeaning.{AssociationMeaning}
use Rattle.rtc_parts.specs.AssociationWords.{given}
use Rattle.rtc_sctp_laws.specs.StreamMessages.{StreamMessage, read_act, reads_of}
use Rattle.rtc_sctp_laws.specs.GenerationLaws.{GenerationLaws}
use Rattle.rtc_sctp_laws.specs.StreamUses.{are_of_generation}
use Rattle.rtc_sctp_laws.proofs.KeptUses.{acts_keep}

no_packet : (packet : List ℕ) (l : List (List ℕ)) → packet ∷ l ≡ [] → ⊥
no_packet packet l h = cc

no_act : (act : AssociationAct) (l : List AssociationAct) → act ∷ l ≡ [] → ⊥
no_act act l h = cc

-- the stream and the generation of the first of some acts, where it reads
abbrev first_stream : List AssociationAct → ℕ
first_stream (Read s g i bytes ∷ acts) = s
first_stream acts = 0

abbrev first_generation : List AssociationAct → ℕ
first_generation (Read s g i bytes ∷ acts) = g
first_generation acts = 0

abbrev others : List AssociationAct → List AssociationAct
others [] = []
others (act ∷ acts) = acts

self : (n k : ℕ) → n ≡ k → (n == k) ≡ true
self n k e = ap (λ (i : ℕ). n == i) (sym e) ∙ same
  where
    same : (n == n) ≡ true
    same = grind arith

module _ {S : Type 0} (m : AssociationMeaning S) (v : GenerationLaws m) where
  pub reads_current : (s : ℕ) (acts : List AssociationAct) (a b : S) (heard : List StreamMessage) → given acts ≡ [] → Moved m a acts b
      → reads_of acts ≡ map read_act heard → are_of_generation s (m.generation b s) heard ≡ true
  reads_current s [] a b [] none h is = refl
  reads_current s [] a b (x ∷ heard) none h is = absurd (no_act (read_act x) (map read_act heard) (sym is))
  reads_current s (Given packet ∷ acts) a b heard none h is = absurd (no_packet packet (given acts) none)
  reads_current s (Read t g i bytes ∷ acts) a b [] none h is = absurd (no_act (Read t g i bytes) (reads_of acts) is)
  reads_current s (Read t g i bytes ∷ acts) a b (x ∷ heard) none h is =
      by (x.stream == s) refl (reads_current s acts h.0 b heard none h.1.1 (ap others is))
    where
      stream_is : x.stream ≡ t
      stream_is = sym (ap first_stream is)

      generation_is : x.generation ≡ m.generation a t
      generation_is = sym (ap first_generation is) ∙ h.1.0.1.2

      own : x.stream ≡ s → x.generation ≡ m.generation b s
      own e =
          generation_is
          ∙ ap (m.generation a) (sym stream_is ∙ e)
          ∙ sym (acts_keep m v s (Read t g i bytes ∷ acts) a b none h).generation_is

      by : (c : Bool) → (x.stream == s) ≡ c → are_of_generation s (m.generation b s) heard ≡ true
          → ((not c || (x.generation == m.generation b s)) && are_of_generation s (m.generation b s) heard) ≡ true
      by true c rest = rw (self x.generation (m.generation b s) (own (eqb-true x.stream s c)), rest) refl
      by false c rest = rest
  reads_current s (act ∷ acts) a b heard none h is = reads_current s acts h.0 b heard none h.1.1 is
