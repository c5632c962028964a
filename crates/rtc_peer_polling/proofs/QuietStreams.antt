-- Streams that gave nothing, or packets that then came back, may be polled again with the same answer.
use Rattle.std.proofs.Common.{◌≡◌, ◌⊎◌, inl, inr, ℕ, Bool, true, false, List, ◌∷◌, Option, Some, None, Ok, refl, sym, ap, subst, ◌∙◌}
use Rattle.rtc_parts.specs.AssociationMeaning.{AssociationMeaning}
use Rattle.rtc_parts.specs.AssociationLaws.{AssociationLaws}
use Rattle.rtc_sctp_entries.specs.declared.stream_entry.StreamEntry.{StreamEntry}
use Rattle.rtc_sctp_entries.specs.declared.sctp_event.SctpEvent.TheVariants as event
use Rattle.rtc_sctp_entries.specs.declared.met.Met.{Met}
use Rattle.rtc_sctp_entries.specs.declared.met.Met.TheVariants.{Nothing, Again, Output, OutOfMemory}
use Rattle.rtc_sctp.specs.Streams.{SctpStreams}
use Rattle.rtc_sctp.specs.Polls.{Else, ThenBy, unclosed_streams, GivesCompletion, TransmitOf, HandlesEvent, VisitsEntries, TakesSteps, AreResting, RestsBy, PassIf, MakesPass, PollsStreams}
use Rattle.rtc_sctp.specs.Rest.{AreUnclosed}
use Rattle.rtc_sctp.proofs.RestingLemmas.{IsLeftResting, transmit_awake}
use Rattle.rtc_sctp.proofs.TendedLemmas.{unclosed_same}
use Rattle.rtc_peer_polling.proofs.PushedAgain.{later_not, steps_left}

module _ {S : Type 0} (m : AssociationMeaning S) where
  -- streams at rest may give nothing
  pub quiet_polls : (p : SctpStreams S) → IsLeftResting m p → PollsStreams m p (Ok None) p
  unfolding MakesPass
  quiet_polls p h = record {
    passes = 0;
    between = p;
    met = Nothing;
    over = refl;
    last =
        subst (λ (b : Bool). PassIf m b p Nothing p) (sym h.0)
        (subst (λ (o : Option (List (List ℕ))). RestsBy o p Nothing p) (sym h.1) (refl, refl), h.2);
    answers = refl;
  }

  -- streams that rest, or have no closed entry
  abbrev pub GiveBack : SctpStreams S → Type 0
  GiveBack p = ((p.rests ≡ true) × AreResting m p.association p.state p.last p.entries) ⊎ ((p.rests ≡ false) × AreUnclosed p.entries)

  given_steps : (packets : List (List ℕ)) (p : SctpStreams S) → p.pushed ≡ Some packets → AreUnclosed p.entries
      → TakesSteps m p (Output (event.Transmit packets)) (record p { pushed = None })
  unfolding TakesSteps
  given_steps packets p back all =
      let same : unclosed_streams p ≡ p = ap (λ (l : List StreamEntry). record p { entries = l }) (unclosed_same p.entries all) in
      let left : record p { pushed = None } ≡ record (unclosed_streams p) { pushed = None } = ap (λ (x : SctpStreams S). record x { pushed = None }) (sym same) in
      let first =
      subst (λ (o : Option (List (List ℕ))). TransmitOf m o (unclosed_streams p) (Output (event.Transmit packets)) (record p { pushed = None })) (sym back)
      (refl, left) in
      (Output (event.Transmit packets), (record p { pushed = None }, (first, (refl, refl))))

  given_pass : (packets : List (List ℕ)) (p : SctpStreams S) → p.pushed ≡ Some packets → GiveBack p
      → MakesPass m p (Output (event.Transmit packets)) (record p { pushed = None })
  unfolding MakesPass
  given_pass packets p back (inl h) =
      subst (λ (b : Bool). PassIf m b p (Output (event.Transmit packets)) (record p { pushed = None })) (sym h.0)
      (subst (λ (o : Option (List (List ℕ))). RestsBy o p (Output (event.Transmit packets)) (record p { pushed = None })) (sym back) (refl, refl), h.1)
  given_pass packets p back (inr h) =
      subst (λ (b : Bool). PassIf m b p (Output (event.Transmit packets)) (record p { pushed = None })) (sym h.0)
      (given_steps packets p back h.1)

  -- packets that were pushed back may be given
  pub given_polls : (packets : List (List ℕ)) (p : SctpStreams S) → p.pushed ≡ Some packets → GiveBack p
      → PollsStreams m p (Ok (Some (event.Transmit packets))) (record p { pushed = None })
  given_polls packets p back keeps = record {
    passes = 0;
    between = p;
    met = Output (event.Transmit packets);
    over = refl;
    last = given_pass packets p back keeps;
    answers = refl;
  }

module _ {S : Type 0} (m : AssociationMeaning S) (w : AssociationLaws m) where
  steps_awake : (packet : List ℕ) (rest : List (List ℕ)) (p q : SctpStreams S) → p.rests ≡ false
      → TakesSteps m p (Output (event.Transmit (packet ∷ rest))) q → q.rests ≡ false
  unfolding TakesSteps
  steps_awake packet rest p q is h = by h.0 h.1.0 (transmit_awake m (unclosed_streams p) h.0 h.1.0 is h.1.1.0) h.1.1.1
    where
      by : (own : Met) (b : SctpStreams S) → b.rests ≡ false
          → ThenBy (Else (HandlesEvent m) (Else (VisitsEntries m) GivesCompletion)) own b (Output (event.Transmit (packet ∷ rest))) q → q.rests ≡ false
      by Nothing b awake k = absurd (later_not m w packet rest b q k)
      by Again b awake k = cc (k.0)
      by (Output o) b awake k = ap (λ (x : SctpStreams S). x.rests) k.1 ∙ awake
      by OutOfMemory b awake k = cc (k.0)

  -- what a pass that gave packets leaves
  given_back : (packet : List ℕ) (rest : List (List ℕ)) (p q : SctpStreams S) → MakesPass m p (Output (event.Transmit (packet ∷ rest))) q → GiveBack m q
  unfolding MakesPass
  given_back packet rest p q h = by p.rests refl h
    where
      rests : (o : Option (List (List ℕ))) → p.rests ≡ true → RestsBy o p (Output (event.Transmit (packet ∷ rest))) q
          → AreResting m p.association p.state p.last p.entries → GiveBack m q
      rests None is k left = cc (k.0)
      rests (Some packets) is k left = subst (λ (x : SctpStreams S). GiveBack m x) (sym k.1) (inl (is, left))

      by : (b : Bool) → p.rests ≡ b → PassIf m b p (Output (event.Transmit (packet ∷ rest))) q → GiveBack m q
      by true is k = rests p.pushed is k.0 k.1
      by false is k = inr (steps_awake packet rest p q is k, steps_left m w packet rest p q k)

  -- packets that a poll gave, and that came back, may be given again
  pub polled_again : (packet : List ℕ) (rest : List (List ℕ)) (p q : SctpStreams S) → PollsStreams m p (Ok (Some (event.Transmit (packet ∷ rest)))) q
      → PollsStreams m (record q { pushed = Some (packet ∷ rest) }) (Ok (Some (event.Transmit (packet ∷ rest)))) (record q { pushed = None })
  polled_again packet rest p q h =
      given_polls m (packet ∷ rest) (record q { pushed = Some (packet ∷ rest) }) refl
      (given_back packet rest h.between q (subst (λ (x : Met). MakesPass m h.between x q) h.answers h.last))
