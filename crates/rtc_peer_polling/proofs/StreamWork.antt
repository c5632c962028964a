-- A poll of the streams takes work away, also where its packets come back.
use Rattle.std.proofs.Common.{◌≡◌, ◌≤◌, ◌<◌, ◌+◌, ◌*◌, ℕ, zero, suc, Bool, true, false, List, [], ◌∷◌, length, Option, Some, None, Result, Ok}
use Rattle.std.proofs.Common.{refl, sym, ap, subst, ◌∙◌, arith}
use Rattle.std.specs.Prelude.{◌&&◌}
use Rattle.std.specs.declared.alloc.AllocError.{AllocError}
use Rattle.rtc_parts.specs.declared.assoc_event.AssocEvent.{AssocEvent}
use Rattle.rtc_parts.specs.declared.assoc_event.AssocEvent.TheVariants as assoc
use Rattle.rtc_parts.specs.AssociationMeaning.{AssociationMeaning}
use Rattle.rtc_parts.specs.AssociationLaws.{AssociationLaws}
use Rattle.rtc_sctp_entries.specs.declared.sctp_event.SctpEvent.{SctpEvent}
use Rattle.rtc_sctp_entries.specs.declared.sctp_event.SctpEvent.TheVariants as event
use Rattle.rtc_sctp_entries.specs.declared.met.Met.{Met}
use Rattle.rtc_sctp_entries.specs.declared.met.Met.TheVariants.{Nothing, Again, Output, OutOfMemory}
use Rattle.rtc_sctp_entries.proofs.GainLemmas.{Gains}
use Rattle.rtc_sctp.specs.Streams.{SctpStreams, is_established}
use Rattle.rtc_sctp.specs.Polls.{Else, ThenBy, unclosed_streams, event_met, credits, pushed_count, streams_work, CompletionOf, GivesCompletion}
use Rattle.rtc_sctp.specs.Polls.{TakesPacket, TransmitIf, TransmitOf, NotStarted, NoRoom, NoEvent, Event, HandlesEvent, VisitsIf, VisitsEntries, TakesSteps, RestsBy, PassIf, MakesPass, Over, PollsStreams}
use Rattle.rtc_sctp.proofs.PassLemmas.{passes_gain}
use Rattle.rtc_sctp_laws.specs.StreamMessages.{packets_met}
use Rattle.rtc_sctp_laws.proofs.PollActs.{tour_did}

-- packets that came back, and one more
abbrev pub waiting : Option (List (List ℕ)) → ℕ
waiting None = 0
waiting (Some packets) = 1 + length packets

-- the same of packets that an event is
abbrev pub event_waiting : SctpEvent → ℕ
event_waiting (event.Transmit packets) = 1 + length packets
event_waiting (event.Open id label) = 0
event_waiting (event.Close id pending) = 0
event_waiting (event.StreamResetComplete id) = 0
event_waiting (event.Data id binary bytes) = 0
event_waiting (event.BufferedAmountLow id) = 0
event_waiting event.AssociationLost = 0

abbrev pub told_waiting : Option SctpEvent → ℕ
told_waiting None = 0
told_waiting (Some e) = event_waiting e

abbrev met_waiting : Met → ℕ
met_waiting Nothing = 0
met_waiting Again = 0
met_waiting (Output e) = event_waiting e
met_waiting OutOfMemory = 0

module _ {S : Type 0} (m : AssociationMeaning S) where
  -- the work of the association and its entries
  abbrev pub base_work : SctpStreams S → ℕ
  base_work p = m.units p.association + credits p.entries + length p.completed

  -- the same with the packets that came back
  abbrev pub sctp_work : SctpStreams S → ℕ
  sctp_work p = 2 * base_work p + waiting p.pushed

  -- what came back is given out first
  transmit_none : (o : Option (List (List ℕ))) (p : SctpStreams S) (met : Met) (q : SctpStreams S) → p.pushed ≡ o → TransmitOf m o p met q → q.pushed ≡ None
  transmit_none (Some packets) p met q e h = ap (λ (x : SctpStreams S). x.pushed) h.1
  transmit_none None p met q e h = gives (m.started p.association) h
    where
      gives : (b : Bool) → TransmitIf m b p met q → q.pushed ≡ None
      gives true k = ap (λ (x : SctpStreams S). x.pushed) k.1 ∙ e
      gives false k = ap (λ (x : SctpStreams S). x.pushed) k.1 ∙ e

  abbrev LeavesNone : (SctpStreams S → Met → SctpStreams S → Type 0) → Type 0
  LeavesNone step = (p : SctpStreams S) (met : Met) (q : SctpStreams S) → p.pushed ≡ None → step p met q → q.pushed ≡ None

  then_none : (rest : SctpStreams S → Met → SctpStreams S → Type 0) → LeavesNone rest → (own : Met) (b : SctpStreams S) (met : Met) (q : SctpStreams S)
      → b.pushed ≡ None → ThenBy rest own b met q → q.pushed ≡ None
  then_none rest f Nothing b met q e k = f b met q e k
  then_none rest f Again b met q e k = ap (λ (x : SctpStreams S). x.pushed) k.1 ∙ e
  then_none rest f (Output o) b met q e k = ap (λ (x : SctpStreams S). x.pushed) k.1 ∙ e
  then_none rest f OutOfMemory b met q e k = ap (λ (x : SctpStreams S). x.pushed) k.1 ∙ e

  else_none : (first rest : SctpStreams S → Met → SctpStreams S → Type 0) → LeavesNone first → LeavesNone rest → LeavesNone (Else first rest)
  else_none first rest f g p met q e h = then_none rest g h.0 h.1.0 met q (f p h.0 h.1.0 e h.1.1.0) h.1.1.1

  visits_none : (b : Bool) (p : SctpStreams S) (met : Met) (q : SctpStreams S) → p.pushed ≡ None → VisitsIf m b p met q → q.pushed ≡ None
  visits_none true p met q e h = ap (λ (x : SctpStreams S). x.pushed) h.1 ∙ e
  visits_none false p met q e h = ap (λ (x : SctpStreams S). x.pushed) h.1 ∙ e

  completion_none : (l : List ℕ) (p : SctpStreams S) (met : Met) (q : SctpStreams S) → p.pushed ≡ None → CompletionOf l p met q → q.pushed ≡ None
  completion_none [] p met q e h = ap (λ (x : SctpStreams S). x.pushed) h.1 ∙ e
  completion_none (id ∷ rest) p met q e h = ap (λ (x : SctpStreams S). x.pushed) h.1 ∙ e

  rest_none : LeavesNone (Else (HandlesEvent m) (Else (VisitsEntries m) GivesCompletion))
  rest_none =
      else_none (HandlesEvent m) (Else (VisitsEntries m) GivesCompletion) (λ p met q e h. ap (λ (x : SctpStreams S). x.pushed) h.1 ∙ e)
      (else_none (VisitsEntries m) GivesCompletion (λ p met q e h. visits_none (is_established p.state && m.started p.association) p met q e h)
      (λ p met q e h. completion_none p.completed p met q e h))

  -- a pass leaves nothing that came back
  steps_none : (p : SctpStreams S) (met : Met) (q : SctpStreams S) → TakesSteps m p met q → q.pushed ≡ None
  unfolding TakesSteps
  steps_none p met q h =
      then_none (Else (HandlesEvent m) (Else (VisitsEntries m) GivesCompletion)) rest_none h.0 h.1.0 met q
      (transmit_none p.pushed (unclosed_streams p) h.0 h.1.0 refl h.1.1.0) h.1.1.1

  rests_none : (o : Option (List (List ℕ))) (p : SctpStreams S) (met : Met) (q : SctpStreams S) → p.pushed ≡ o → RestsBy o p met q → q.pushed ≡ None
  rests_none (Some packets) p met q e h = ap (λ (x : SctpStreams S). x.pushed) h.1
  rests_none None p met q e h = ap (λ (x : SctpStreams S). x.pushed) h.1 ∙ e

  pass_none : (p : SctpStreams S) (met : Met) (q : SctpStreams S) → MakesPass m p met q → q.pushed ≡ None
  unfolding MakesPass
  pass_none p met q h = by p.rests h
    where
      by : (rests : Bool) → PassIf m rests p met q → q.pushed ≡ None
      by true k = rests_none p.pushed p met q refl k.0
      by false k = steps_none p met q k

  -- packets that came back are what the pass meets
  stops_there : (rest : SctpStreams S → Met → SctpStreams S → Type 0) (o : SctpEvent) (own : Met) (b : SctpStreams S) (met : Met) (q : SctpStreams S)
      → own ≡ Output o → ThenBy rest own b met q → met ≡ Output o
  stops_there rest o Nothing b met q e k = cc (e)
  stops_there rest o Again b met q e k = cc (e)
  stops_there rest o (Output x) b met q e k = k.0 ∙ e
  stops_there rest o OutOfMemory b met q e k = cc (e)

  steps_give_back : (packets : List (List ℕ)) (p : SctpStreams S) (met : Met) (q : SctpStreams S) → p.pushed ≡ Some packets → TakesSteps m p met q
      → met ≡ Output (event.Transmit packets)
  unfolding TakesSteps
  steps_give_back packets p met q e h =
      let given = subst (λ (o : Option (List (List ℕ))). TransmitOf m o (unclosed_streams p) h.0 h.1.0) e h.1.1.0 in
      stops_there (Else (HandlesEvent m) (Else (VisitsEntries m) GivesCompletion)) (event.Transmit packets) h.0 h.1.0 met q given.0 h.1.1.1

  gives_back : (packets : List (List ℕ)) (p : SctpStreams S) (met : Met) (q : SctpStreams S) → p.pushed ≡ Some packets → MakesPass m p met q
      → met ≡ Output (event.Transmit packets)
  unfolding MakesPass
  gives_back packets p met q e h = by p.rests h
    where
      by : (rests : Bool) → PassIf m rests p met q → met ≡ Output (event.Transmit packets)
      by true k = (subst (λ (o : Option (List (List ℕ))). RestsBy o p met q) e k.0).0
      by false k = steps_give_back packets p met q e k

module _ {S : Type 0} (m : AssociationMeaning S) (w : AssociationLaws m) where
  -- at most one packet is met
  abbrev Single : Met → Type 0
  Single met = length (packets_met met) ≤ 1

  single_is : (r met : Met) → met ≡ r → Single r → Single met
  single_is r met e h = subst (λ (x : Met). Single x) (sym e) h

  no_packets : (met : Met) → packets_met met ≡ [] → Single met
  no_packets met e = omega (arith, ap (λ (l : List (List ℕ)). length l) e)

  packet_single : (a : S) (met : Met) (b : S) → TakesPacket m a met b → Single met
  packet_single a Nothing b h = omega arith
  packet_single a Again b h = absurd h
  packet_single a (Output (event.Transmit packets)) b h = omega (arith, ap (λ (l : List (List ℕ)). length l) h.2)
  packet_single a (Output (event.Open id label)) b h = absurd h
  packet_single a (Output (event.Close id pending)) b h = absurd h
  packet_single a (Output (event.StreamResetComplete id)) b h = absurd h
  packet_single a (Output (event.Data id binary bytes)) b h = absurd h
  packet_single a (Output (event.BufferedAmountLow id)) b h = absurd h
  packet_single a (Output event.AssociationLost) b h = absurd h
  packet_single a OutOfMemory b h = omega arith

  transmit_single : (b : Bool) (p : SctpStreams S) (met : Met) (q : SctpStreams S) → TransmitIf m b p met q → Single met
  transmit_single true p met q h = packet_single p.association met q.association h.0
  transmit_single false p met q h = single_is Nothing met h.0 (omega arith)

  event_single : (e : AssocEvent) → Single (event_met e)
  event_single assoc.Connected = omega arith
  event_single assoc.Lost = omega arith
  event_single (assoc.Readable id) = omega arith
  event_single (assoc.Writable id) = omega arith
  event_single (assoc.Finished id) = omega arith
  event_single (assoc.ResetComplete id) = omega arith
  event_single (assoc.BufferedAmountLow id) = omega arith

  handled_single : (p : SctpStreams S) (met : Met) (q : SctpStreams S) → HandlesEvent m p met q → Single met
  handled_single p met q (NotStarted s e f g, k) = single_is Nothing met e (omega arith)
  handled_single p met q (NoRoom e f g, k) = single_is OutOfMemory met e (omega arith)
  handled_single p met q (NoEvent s k e g, j) = single_is Nothing met e (omega arith)
  handled_single p met q (Event e s k f g, j) = single_is (event_met e) met f (event_single e)

  visits_single : (b : Bool) (p : SctpStreams S) (met : Met) (q : SctpStreams S) → VisitsIf m b p met q → Single met
  visits_single true p met q h =
      no_packets met (tour_did m w p.last p.entries p.association p.resets met q.association q.resets q.entries h.0).sent_is
  visits_single false p met q h = single_is Nothing met h.0 (omega arith)

  completion_single : (l : List ℕ) (p : SctpStreams S) (met : Met) (q : SctpStreams S) → CompletionOf l p met q → Single met
  completion_single [] p met q h = single_is Nothing met h.0 (omega arith)
  completion_single (id ∷ rest) p met q h = single_is (Output (event.StreamResetComplete id)) met h.0 (omega arith)

  abbrev MeetsSingle : (SctpStreams S → Met → SctpStreams S → Type 0) → Type 0
  MeetsSingle step = (p : SctpStreams S) (met : Met) (q : SctpStreams S) → step p met q → Single met

  then_single : (rest : SctpStreams S → Met → SctpStreams S → Type 0) → MeetsSingle rest → (own : Met) (b : SctpStreams S) (met : Met) (q : SctpStreams S)
      → Single own → ThenBy rest own b met q → Single met
  then_single rest f Nothing b met q s k = f b met q k
  then_single rest f Again b met q s k = single_is Again met k.0 (omega arith)
  then_single rest f (Output o) b met q s k = single_is (Output o) met k.0 s
  then_single rest f OutOfMemory b met q s k = single_is OutOfMemory met k.0 (omega arith)

  else_single : (first rest : SctpStreams S → Met → SctpStreams S → Type 0) → MeetsSingle first → MeetsSingle rest → MeetsSingle (Else first rest)
  else_single first rest f g p met q h = then_single rest g h.0 h.1.0 met q (f p h.0 h.1.0 h.1.1.0) h.1.1.1

  rest_single : MeetsSingle (Else (HandlesEvent m) (Else (VisitsEntries m) GivesCompletion))
  rest_single =
      else_single (HandlesEvent m) (Else (VisitsEntries m) GivesCompletion) handled_single
      (else_single (VisitsEntries m) GivesCompletion (λ p met q h. visits_single (is_established p.state && m.started p.association) p met q h)
      (λ p met q h. completion_single p.completed p met q h))

  steps_single : (p : SctpStreams S) (met : Met) (q : SctpStreams S) → p.pushed ≡ None → TakesSteps m p met q → Single met
  unfolding TakesSteps
  steps_single p met q e h =
      let given = subst (λ (o : Option (List (List ℕ))). TransmitOf m o (unclosed_streams p) h.0 h.1.0) e h.1.1.0 in
      then_single (Else (HandlesEvent m) (Else (VisitsEntries m) GivesCompletion)) rest_single h.0 h.1.0 met q
      (transmit_single (m.started p.association) (unclosed_streams p) h.0 h.1.0 given) h.1.1.1

  pass_single : (p : SctpStreams S) (met : Met) (q : SctpStreams S) → p.pushed ≡ None → MakesPass m p met q → Single met
  unfolding MakesPass
  pass_single p met q e h = by p.rests h
    where
      by : (rests : Bool) → PassIf m rests p met q → Single met
      by true k = single_is Nothing met (subst (λ (o : Option (List (List ℕ))). RestsBy o p met q) e k.0).0 (omega arith)
      by false k = steps_single p met q e k

  waits_single : (met : Met) → Single met → met_waiting met ≤ 2
  waits_single Nothing s = omega arith
  waits_single Again s = omega arith
  waits_single (Output (event.Transmit packets)) s = omega (arith, s)
  waits_single (Output (event.Open id label)) s = omega arith
  waits_single (Output (event.Close id pending)) s = omega arith
  waits_single (Output (event.StreamResetComplete id)) s = omega arith
  waits_single (Output (event.Data id binary bytes)) s = omega arith
  waits_single (Output (event.BufferedAmountLow id)) s = omega arith
  waits_single (Output event.AssociationLost) s = omega arith
  waits_single OutOfMemory s = omega arith

  -- what a pass takes away, by what it met
  abbrev TakesWork : Met → (old new : ℕ) → Type 0
  TakesWork Nothing old new = new ≤ old
  TakesWork Again old new = new ≤ old
  TakesWork (Output e) old new = new + event_waiting e ≤ old
  TakesWork OutOfMemory old new = Unit {0}

  work_of : (met : Met) (o : Option (List (List ℕ))) (old new : ℕ) → Gains met 1 (old + pushed_count o) new → o ≡ None → met_waiting met ≤ 2
      → TakesWork met (2 * old + waiting o) (2 * new)
  work_of Nothing o old new g e s = omega (arith, g, ap pushed_count e)
  work_of Again o old new g e s = omega (arith, g, ap pushed_count e)
  work_of (Output x) o old new g e s = omega (arith, g, ap pushed_count e, s)
  work_of OutOfMemory o old new g e s = tt

  gained : (p : SctpStreams S) (met : Met) (q : SctpStreams S) → MakesPass m p met q → Gains met 1 (base_work m p + pushed_count p.pushed) (base_work m q)
  gained p met q h =
      let none = ap pushed_count (pass_none m p met q h) in
      let same : base_work m q + pushed_count q.pushed ≡ base_work m q = omega (arith, none) in
      subst (λ (n : ℕ). Gains met 1 (base_work m p + pushed_count p.pushed) n) same (passes_gain m w p met q h)

  works_by : (o : Option (List (List ℕ))) (p : SctpStreams S) (met : Met) (q : SctpStreams S) → p.pushed ≡ o → MakesPass m p met q
      → TakesWork met (sctp_work m p) (2 * base_work m q)
  works_by None p met q e h =
      work_of met p.pushed (base_work m p) (base_work m q) (gained p met q h) e (waits_single met (pass_single p met q e h))
  works_by (Some packets) p met q e h =
      let is = gives_back m packets p met q e h in
      let gain = subst (λ (x : Met). Gains x 1 (base_work m p + pushed_count p.pushed) (base_work m q)) is (gained p met q h) in
      subst (λ (x : Met). TakesWork x (sctp_work m p) (2 * base_work m q)) (sym is)
      (omega (arith, gain, ap pushed_count e, ap waiting e))

  over_works : (n : ℕ) (p q : SctpStreams S) → Over m n p q → sctp_work m q ≤ sctp_work m p
  over_works zero p q h = omega (arith, ap (sctp_work m) h)
  over_works (suc n) p q h =
      let more = over_works n p h.0 h.1 in
      let pass = works_by h.0.pushed h.0 Again q refl h.2 in
      omega (arith, more, pass, ap waiting (pass_none m h.0 Again q h.2))

  -- a poll leaves nothing that came back
  pub poll_none : (p : SctpStreams S) (r : Result (Option SctpEvent) AllocError) (q : SctpStreams S) → PollsStreams m p r q → q.pushed ≡ None
  poll_none p r q h = pass_none m h.between h.met q h.last

  -- a poll takes work away, also where its packets come back
  pub poll_works : (p : SctpStreams S) (told : Option SctpEvent) (q : SctpStreams S) → PollsStreams m p (Ok told) q
      → 2 * base_work m q + told_waiting told ≤ sctp_work m p
  poll_works p None q h =
      let last = works_by h.between.pushed h.between h.met q refl h.last in
      let nothing = subst (λ (x : Met). TakesWork x (sctp_work m h.between) (2 * base_work m q)) h.answers last in
      omega (arith, over_works h.passes p h.between h.over, nothing)
  poll_works p (Some e) q h =
      let last = works_by h.between.pushed h.between h.met q refl h.last in
      let output = subst (λ (x : Met). TakesWork x (sctp_work m h.between) (2 * base_work m q)) h.answers last in
      omega (arith, over_works h.passes p h.between h.over, output)

  -- a poll that tells something takes some away
  over_falls : (n : ℕ) (p q : SctpStreams S) → Over m n p q → streams_work m q ≤ streams_work m p
  over_falls zero p q h = omega (arith, ap (streams_work m) h)
  over_falls (suc n) p q h = omega (arith, over_falls n p h.0 h.1, passes_gain m w h.0 Again q h.2)

  pub poll_falls : (p : SctpStreams S) (e : SctpEvent) (q : SctpStreams S) → PollsStreams m p (Ok (Some e)) q → streams_work m q < streams_work m p
  poll_falls p e q h =
      let gain = subst (λ (x : Met). Gains x 1 (streams_work m h.between) (streams_work m q)) h.answers (passes_gain m w h.between h.met q h.last) in
      omega (arith, over_falls h.passes p h.between h.over, gain)
