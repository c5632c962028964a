-- A poll of the streams that gave packets, which then came back, is followed by one that gives them again and changes nothing else.
use Rattle.std.proofs.Common.{◌≡◌, ◌⊎◌, inl, inr, ℕ, Bool, true, false, true≢false, List, [], ◌∷◌, Option, Some, None, Result, Ok, Err, refl, sym, ap, subst, ◌∙◌}
use Rattle.std.specs.Prelude.{◌&&◌}
use Rattle.std.specs.declared.alloc.AllocError.{AllocError}
use Rattle.rtc_parts.specs.AssociationMeaning.{AssociationMeaning}
use Rattle.rtc_parts.specs.AssociationLaws.{AssociationLaws}
use Rattle.rtc_sctp_entries.specs.declared.stream_entry.StreamEntry.{StreamEntry}
use Rattle.rtc_sctp_entries.specs.declared.sctp_event.SctpEvent.{SctpEvent}
use Rattle.rtc_sctp_entries.specs.declared.sctp_event.SctpEvent.TheVariants as event
use Rattle.rtc_sctp_entries.specs.declared.met.Met.{Met}
use Rattle.rtc_sctp_entries.specs.declared.met.Met.TheVariants.{Nothing, Again, Output, OutOfMemory}
use Rattle.rtc_sctp.specs.Streams.{SctpStreams, is_established}
use Rattle.rtc_sctp.specs.Polls.{Else, ThenBy, unclosed_streams, CompletionOf, GivesCompletion, TransmitIf, TransmitOf}
use Rattle.rtc_sctp.specs.Polls.{HandlesEvent, NotStarted, NoRoom, NoEvent, Event, VisitsIf, VisitsEntries, TakesSteps, RestsBy, PassIf, MakesPass, PollsStreams, Answers}
use Rattle.rtc_sctp_laws.proofs.PollActs.{tour_did}
use Rattle.rtc_sctp.specs.Rest.{AreUnclosed}
use Rattle.rtc_sctp.proofs.CallsTended.{unclosed_left}
use Rattle.rtc_sctp.proofs.TendedLemmas.{unclosed_same}
use Rattle.rtc_peer_polling.proofs.RestingStreams.{not_sent, over_rests}

module _ {S : Type 0} (m : AssociationMeaning S) where
  transmit_if_keeps : (b : Bool) (p : SctpStreams S) (met : Met) (q : SctpStreams S) → TransmitIf m b p met q → q.entries ≡ p.entries
  transmit_if_keeps true p met q h = ap (λ (x : SctpStreams S). x.entries) h.1
  transmit_if_keeps false p met q h = ap (λ (x : SctpStreams S). x.entries) h.1

  transmit_keeps : (o : Option (List (List ℕ))) (p : SctpStreams S) (met : Met) (q : SctpStreams S) → TransmitOf m o p met q → q.entries ≡ p.entries
  transmit_keeps None p met q h = transmit_if_keeps (m.started p.association) p met q h
  transmit_keeps (Some packets) p met q h = ap (λ (x : SctpStreams S). x.entries) h.1

  -- packets that were pushed back are what the steps give
  steps_give : (packets : List (List ℕ)) (p : SctpStreams S) (met : Met) (q : SctpStreams S) → p.pushed ≡ Some packets → AreUnclosed p.entries
      → TakesSteps m p met q → (met ≡ Output (event.Transmit packets)) × (q ≡ record p { pushed = None })
  unfolding TakesSteps
  steps_give packets p met q back all h =
      let same : unclosed_streams p ≡ p = ap (λ (l : List StreamEntry). record p { entries = l }) (unclosed_same p.entries all) in
      let given = subst (λ (o : Option (List (List ℕ))). TransmitOf m o (unclosed_streams p) h.0 h.1.0) back h.1.1.0 in
      by h.0 h.1.0 given.0 (given.1 ∙ ap (λ (x : SctpStreams S). record x { pushed = None }) same) h.1.1.1
    where
      by : (own : Met) (b : SctpStreams S) → own ≡ Output (event.Transmit packets) → b ≡ record p { pushed = None }
          → ThenBy (Else (HandlesEvent m) (Else (VisitsEntries m) GivesCompletion)) own b met q
          → (met ≡ Output (event.Transmit packets)) × (q ≡ record p { pushed = None })
      by Nothing b is left k = cc (is)
      by Again b is left k = cc (is)
      by (Output o) b is left k = (k.0 ∙ is, k.1 ∙ left)
      by OutOfMemory b is left k = cc (is)

  -- streams at rest, or without a closed entry
  abbrev pub KeepsAll : SctpStreams S → Type 0
  KeepsAll p = (p.rests ≡ true) ⊎ AreUnclosed p.entries

  -- and a pass gives them
  pass_gives : (packets : List (List ℕ)) (p : SctpStreams S) (met : Met) (q : SctpStreams S) → p.pushed ≡ Some packets → KeepsAll p
      → MakesPass m p met q → (met ≡ Output (event.Transmit packets)) × (q ≡ record p { pushed = None })
  unfolding MakesPass
  pass_gives packets p met q back keeps h = by p.rests refl keeps h
    where
      by : (b : Bool) → p.rests ≡ b → KeepsAll p → PassIf m b p met q → (met ≡ Output (event.Transmit packets)) × (q ≡ record p { pushed = None })
      by true is all k = subst (λ (o : Option (List (List ℕ))). RestsBy o p met q) back k.0
      by false is (inl rests) k = absurd (true≢false (sym rests ∙ is))
      by false is (inr all) k = steps_give packets p met q back all k

  -- polls of these streams give these packets
  abbrev pub StreamsGive : List (List ℕ) → SctpStreams S → Type 0
  StreamsGive packets p = (r : Result (Option SctpEvent) AllocError) (q : SctpStreams S) → PollsStreams m p r q
      → (r ≡ Ok (Some (event.Transmit packets))) × (q ≡ record p { pushed = None })

  given_answer : (packets : List (List ℕ)) (r : Result (Option SctpEvent) AllocError) (met : Met) → Answers r met → met ≡ Output (event.Transmit packets)
      → r ≡ Ok (Some (event.Transmit packets))
  given_answer packets (Ok None) met h is = let clash : Nothing ≡ Output (event.Transmit packets) = sym h ∙ is in cc
  given_answer packets (Ok (Some e)) met h is =
      let both : Output e ≡ Output (event.Transmit packets) = sym h ∙ is in
      let same : e ≡ event.Transmit packets = cc (both) in
      ap (λ x. Ok (Some x)) same
  given_answer packets (Err x) met h is = let clash : OutOfMemory ≡ Output (event.Transmit packets) = sym h ∙ is in cc

  gives_again : (packets : List (List ℕ)) (p : SctpStreams S) → p.pushed ≡ Some packets → KeepsAll p → StreamsGive packets p
  gives_again packets p back all r q h =
      let never = λ (s : SctpStreams S) (k : MakesPass m p Again s). clash (pass_gives packets p Again s back all k).0 in
      let same = over_rests m p never h.passes h.between h.over in
      let last = pass_gives packets p h.met q back all (subst (λ (x : SctpStreams S). MakesPass m x h.met q) same h.last) in
      (given_answer packets r h.met h.answers last.0, last.1)
    where
      clash : Again ≡ Output (event.Transmit packets) → ⊥
      clash e = cc (e)

module _ {S : Type 0} (m : AssociationMeaning S) (w : AssociationLaws m) where
  -- a pass that gives packets gives them in its first step
  no_packets : (packet : List ℕ) (rest : List (List ℕ)) → packet ∷ rest ≡ [] → ⊥
  no_packets packet rest e = cc (e)

  handled_not : (packets : List (List ℕ)) (p q : SctpStreams S) → HandlesEvent m p (Output (event.Transmit packets)) q → ⊥
  handled_not packets p q (NotStarted fresh is same book, k) = cc (is)
  handled_not packets p q (NoRoom is same book, k) = cc (is)
  handled_not packets p q (NoEvent started polled is book, k) = cc (is)
  handled_not packets p q (Event e started polled is after, k) = not_sent packets e is

  visited_not : (b : Bool) (packet : List ℕ) (rest : List (List ℕ)) (p q : SctpStreams S) → VisitsIf m b p (Output (event.Transmit (packet ∷ rest))) q → ⊥
  visited_not false packet rest p q h = cc (h.0)
  visited_not true packet rest p q h =
      no_packets packet rest
      (tour_did m w p.last p.entries p.association p.resets (Output (event.Transmit (packet ∷ rest))) q.association q.resets q.entries h.0).sent_is

  completed_not : (l : List ℕ) (packets : List (List ℕ)) (p q : SctpStreams S) → CompletionOf l p (Output (event.Transmit packets)) q → ⊥
  completed_not [] packets p q h = cc (h.0)
  completed_not (id ∷ rest) packets p q h = cc (h.0)

  abbrev NeverGives : List (List ℕ) → (SctpStreams S → Met → SctpStreams S → Type 0) → Type 0
  NeverGives packets step = (p q : SctpStreams S) → step p (Output (event.Transmit packets)) q → ⊥

  then_not : (packets : List (List ℕ)) (rest : SctpStreams S → Met → SctpStreams S → Type 0) → NeverGives packets rest → (own : Met)
      → (own ≡ Output (event.Transmit packets) → ⊥) → (b q : SctpStreams S) → ThenBy rest own b (Output (event.Transmit packets)) q → ⊥
  then_not packets rest never Nothing not b q k = never b q k
  then_not packets rest never Again not b q k = cc (k.0)
  then_not packets rest never (Output o) not b q k = not (sym k.0)
  then_not packets rest never OutOfMemory not b q k = cc (k.0)

  else_not : (packets : List (List ℕ)) (first rest : SctpStreams S → Met → SctpStreams S → Type 0) → NeverGives packets first → NeverGives packets rest
      → NeverGives packets (Else first rest)
  else_not packets first rest one other p q h =
      then_not packets rest other h.0 (λ is. one p h.1.0 (subst (λ (x : Met). first p x h.1.0) is h.1.1.0)) h.1.0 q h.1.1.1

  pub later_not : (packet : List ℕ) (rest : List (List ℕ)) → NeverGives (packet ∷ rest) (Else (HandlesEvent m) (Else (VisitsEntries m) GivesCompletion))
  later_not packet rest =
      else_not (packet ∷ rest) (HandlesEvent m) (Else (VisitsEntries m) GivesCompletion) (handled_not (packet ∷ rest))
      (else_not (packet ∷ rest) (VisitsEntries m) GivesCompletion
      (λ p q h. visited_not (is_established p.state && m.started p.association) packet rest p q h)
      (λ p q h. completed_not p.completed (packet ∷ rest) p q h))

  pub steps_left : (packet : List ℕ) (rest : List (List ℕ)) (p q : SctpStreams S) → TakesSteps m p (Output (event.Transmit (packet ∷ rest))) q
      → AreUnclosed q.entries
  unfolding TakesSteps
  steps_left packet rest p q h =
      by h.0 h.1.0 (transmit_keeps m p.pushed (unclosed_streams p) h.0 h.1.0 h.1.1.0) h.1.1.1
    where
      by : (own : Met) (b : SctpStreams S) → b.entries ≡ (unclosed_streams p).entries
          → ThenBy (Else (HandlesEvent m) (Else (VisitsEntries m) GivesCompletion)) own b (Output (event.Transmit (packet ∷ rest))) q → AreUnclosed q.entries
      by Nothing b same k = absurd (later_not packet rest b q k)
      by Again b same k = cc (k.0)
      by (Output o) b same k =
          subst (λ (l : List StreamEntry). AreUnclosed l) (sym (ap (λ (x : SctpStreams S). x.entries) k.1 ∙ same)) (unclosed_left p.entries)
      by OutOfMemory b same k = cc (k.0)

  given_left : (packet : List ℕ) (rest : List (List ℕ)) (p q : SctpStreams S) → MakesPass m p (Output (event.Transmit (packet ∷ rest))) q → KeepsAll m q
  unfolding MakesPass
  given_left packet rest p q h = by p.rests refl h
    where
      rests : (o : Option (List (List ℕ))) → p.rests ≡ true → RestsBy o p (Output (event.Transmit (packet ∷ rest))) q → KeepsAll m q
      rests None is k = cc (k.0)
      rests (Some packets) is k = inl (ap (λ (x : SctpStreams S). x.rests) k.1 ∙ is)

      by : (b : Bool) → p.rests ≡ b → PassIf m b p (Output (event.Transmit (packet ∷ rest))) q → KeepsAll m q
      by true is k = rests p.pushed is k.0
      by false is k = inr (steps_left packet rest p q k)

  -- what a poll that gave packets leaves, once they came back
  pub polled_gives : (packet : List ℕ) (rest : List (List ℕ)) (p q : SctpStreams S) → PollsStreams m p (Ok (Some (event.Transmit (packet ∷ rest)))) q
      → StreamsGive m (packet ∷ rest) (record q { pushed = Some (packet ∷ rest) })
  polled_gives packet rest p q h =
      gives_again m (packet ∷ rest) (record q { pushed = Some (packet ∷ rest) }) refl
      (given_left packet rest h.between q (subst (λ (x : Met). MakesPass m h.between x q) h.answers h.last))
