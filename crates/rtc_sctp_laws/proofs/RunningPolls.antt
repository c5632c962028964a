-- An association that runs does so after each call; and where a poll tells that a stream is open it runs.
use Rattle.std.proofs.Common.{◌≡◌, ◌∙◌, ℕ, zero, suc, ◌&&◌, Bool, true, false, true≢false, List, [], ◌∷◌, Option, Some, None, Result, Ok, refl, sym, ap, subst}
use Rattle.std.specs.declared.alloc.AllocError.{AllocError}
use Rattle.rtc_ready.specs.Signals.{Signals}
use Rattle.rtc_parts.specs.declared.assoc_event.AssocEvent.{AssocEvent}
use Rattle.rtc_parts.specs.declared.assoc_event.AssocEvent.TheVariants as assoc
use Rattle.rtc_parts.specs.AssociationLaws.{AssociationLaws}
use Rattle.rtc_parts.specs.AssociationMeaning.{AssociationMeaning}
use Rattle.rtc_sctp_entries.specs.declared.met.Met.{Met}
use Rattle.rtc_sctp_entries.specs.declared.met.Met.TheVariants.{Nothing, Again, Output, OutOfMemory}
use Rattle.rtc_sctp_entries.specs.declared.sctp_event.SctpEvent.{SctpEvent}
use Rattle.rtc_sctp_entries.specs.declared.sctp_event.SctpEvent.TheVariants as event
use Rattle.rtc_sctp_values.specs.declared.sctp_error.SctpError.{SctpError}
use Rattle.rtc_sctp.specs.declared.rtc_sctp_state.RtcSctpState.{RtcSctpState}
use Rattle.rtc_sctp.specs.declared.rtc_sctp_state.RtcSctpState.TheVariants.{Uninited, AwaitRemoteAssociation, AwaitAssociationEstablished, Established}
use Rattle.rtc_sctp.specs.Calls.{InputIf, TimedBy, WrittenIf, state_on_input}
use Rattle.rtc_sctp.specs.Polls.{AfterEvent, Book, CompletionOf, Else, Event, GivesCompletion, GivesTransmit, HandlesEvent, TakesSteps, RestsBy, PassIf, MakesPass, NoEvent, NoRoom, NotStarted, Over, PollsStreams, TakesEvent, TakesPacket, ThenBy, TransmitIf, TransmitOf, VisitsEntries, VisitsIf, book_of, event_met, unclosed_streams}
use Rattle.rtc_sctp.specs.Streams.{SctpStreams, is_established}
use Rattle.rtc_sctp_laws.proofs.ClosingPolls.{started_moved}
use Rattle.rtc_sctp_laws.proofs.UsedTours.{tour_uses}
use Rattle.rtc_sctp_laws.specs.RunningStreams.{AreRunning}

-- streams that were established stay so
abbrev pub StayEstablished : {S : Type 0} → SctpStreams S → SctpStreams S → Type 0
StayEstablished p q = is_established p.state ≡ true → is_established q.state ≡ true

pub stay_same : {S : Type 0} (p q : SctpStreams S) → q.state ≡ p.state → StayEstablished p q
stay_same p q same = λ e. ap is_established same ∙ e

-- ---- calls

input_state : (state : RtcSctpState) → is_established state ≡ true → is_established (state_on_input state) ≡ true
input_state Uninited e = e
input_state AwaitRemoteAssociation e = absurd (true≢false (sym e))
input_state AwaitAssociationEstablished e = e
input_state Established e = e

module _ {S : Type 0} (m : AssociationMeaning S) where
  pub input_stays : (started : Bool) (now : ℕ) (bytes : List ℕ) (p : SctpStreams S) (r : Result (Unit {0}) AllocError) (q : SctpStreams S)
      → InputIf m started now bytes p r q → StayEstablished p q
  input_stays false now bytes p r q h = stay_same p q (ap (λ (x : SctpStreams S). x.state) h.1)
  input_stays true now bytes p r q h = λ e. ap (λ (x : SctpStreams S). is_established x.state) h.1 ∙ input_state p.state e

  pub timed_stays : (state : RtcSctpState) (now : ℕ) (p : SctpStreams S) (wake : Signals) (r : Result (Unit {0}) AllocError) (q : SctpStreams S)
      (wake' : Signals) → TimedBy m state now p wake r q wake' → StayEstablished p q
  timed_stays Uninited now p wake r q wake' h = stay_same p q (ap (λ (x : SctpStreams S). x.state) h.1)
  timed_stays AwaitRemoteAssociation now p wake r q wake' h = stay_same p q (ap (λ (x : SctpStreams S). x.state) h.1)
  timed_stays AwaitAssociationEstablished now p wake r q wake' h = stay_same p q (ap (λ (x : SctpStreams S). x.state) h.1)
  timed_stays Established now p wake r q wake' h = stay_same p q (ap (λ (x : SctpStreams S). x.state) h.1)

  pub written_stays : (can current : Bool) (id : ℕ) (binary : Bool) (bytes : List ℕ) (p : SctpStreams S) (r : Result ℕ SctpError) (q : SctpStreams S)
      → WrittenIf m can current id binary bytes p r q → StayEstablished p q
  written_stays false current id binary bytes p r q h = stay_same p q (ap (λ (x : SctpStreams S). x.state) h.1)
  written_stays true false id binary bytes p r q h = stay_same p q (ap (λ (x : SctpStreams S). x.state) h.1)
  written_stays true true id binary bytes p r q h = stay_same p q (ap (λ (x : SctpStreams S). x.state) h.3)

  -- ---- polls

  abbrev StepStays : (SctpStreams S → Met → SctpStreams S → Type 0) → Type 0
  StepStays step = (p : SctpStreams S) (met : Met) (q : SctpStreams S) → step p met q → StayEstablished p q

  then_stays : (next : SctpStreams S → Met → SctpStreams S → Type 0) → StepStays next → (own : Met) (p : SctpStreams S) (met : Met)
      (q : SctpStreams S) → ThenBy next own p met q → StayEstablished p q
  then_stays next one Nothing p met q h = one p met q h
  then_stays next one Again p met q h = stay_same p q (ap (λ (x : SctpStreams S). x.state) h.1)
  then_stays next one (Output e) p met q h = stay_same p q (ap (λ (x : SctpStreams S). x.state) h.1)
  then_stays next one OutOfMemory p met q h = stay_same p q (ap (λ (x : SctpStreams S). x.state) h.1)

  else_stays : (first next : SctpStreams S → Met → SctpStreams S → Type 0) → StepStays first → StepStays next → StepStays (Else first next)
  else_stays first next one other p met q h = λ e.
      then_stays next other h.0 h.1.0 met q h.1.1.1 (one p h.0 h.1.0 h.1.1.0 e)

  transmit_stays : (pushed : Option (List (List ℕ))) (p : SctpStreams S) (met : Met) (q : SctpStreams S) → TransmitOf m pushed p met q
      → StayEstablished p q
  transmit_stays (Some packets) p met q h = stay_same p q (ap (λ (x : SctpStreams S). x.state) h.1)
  transmit_stays None p met q h = by (m.started p.association) h
    where
      by : (b : Bool) → TransmitIf m b p met q → StayEstablished p q
      by false k = stay_same p q (ap (λ (x : SctpStreams S). x.state) k.1)
      by true k = stay_same p q (ap (λ (x : SctpStreams S). x.state) k.1)

  after_stays : (e : AssocEvent) (b b' : Book) → AfterEvent e b b' → is_established b.state ≡ true → is_established b'.state ≡ true
  after_stays assoc.Connected b b' h k = ap (λ (x : Book). is_established x.state) h
  after_stays assoc.Lost b b' h k = ap (λ (x : Book). is_established x.state) h ∙ k
  after_stays (assoc.Readable id) b b' h k = ap (λ (x : Book). is_established x.state) h ∙ k
  after_stays (assoc.Writable id) b b' h k = ap (λ (x : Book). is_established x.state) h ∙ k
  after_stays (assoc.Finished id) b b' h k = ap (λ (x : Book). is_established x.state) h.1 ∙ k
  after_stays (assoc.ResetComplete id) b b' h k = ap (λ (x : Book). is_established x.state) h ∙ k
  after_stays (assoc.BufferedAmountLow id) b b' h k = ap (λ (x : Book). is_established x.state) h ∙ k

  event_stays : (p : SctpStreams S) (met : Met) (q : SctpStreams S) → TakesEvent m p.association (book_of p) met q.association (book_of q)
      → StayEstablished p q
  event_stays p met q (NotStarted fresh is same book) = stay_same p q (ap (λ (b : Book). b.state) book)
  event_stays p met q (NoRoom is same book) = stay_same p q (ap (λ (b : Book). b.state) book)
  event_stays p met q (NoEvent started polled is book) = stay_same p q (ap (λ (b : Book). b.state) book)
  event_stays p met q (Event e started polled is after) = after_stays e (book_of p) (book_of q) after

  visits_stay : (b : Bool) (p : SctpStreams S) (met : Met) (q : SctpStreams S) → VisitsIf m b p met q → StayEstablished p q
  visits_stay false p met q h = stay_same p q (ap (λ (x : SctpStreams S). x.state) h.1)
  visits_stay true p met q h = stay_same p q (ap (λ (x : SctpStreams S). x.state) h.1)

  completion_stays : (completed : List ℕ) (p : SctpStreams S) (met : Met) (q : SctpStreams S) → CompletionOf completed p met q → StayEstablished p q
  completion_stays [] p met q h = stay_same p q (ap (λ (x : SctpStreams S). x.state) h.1)
  completion_stays (id ∷ rest) p met q h = stay_same p q (ap (λ (x : SctpStreams S). x.state) h.1)

  steps_stay : (p : SctpStreams S) (met : Met) (q : SctpStreams S) → TakesSteps m p met q → StayEstablished p q
  unfolding TakesSteps
  steps_stay p met q h =
      else_stays (GivesTransmit m) _ (λ p met q k. transmit_stays p.pushed p met q k)
      (else_stays (HandlesEvent m) _ (λ p met q k. event_stays p met q k.0)
      (else_stays (VisitsEntries m) GivesCompletion (λ p met q k. visits_stay (is_established p.state && m.started p.association) p met q k)
      (λ p met q k. completion_stays p.completed p met q k))) (unclosed_streams p) met q h

  pass_stays : (p : SctpStreams S) (met : Met) (q : SctpStreams S) → MakesPass m p met q → StayEstablished p q
  unfolding MakesPass
  pass_stays p met q h = by p.rests h
    where
      rests : (o : Option (List (List ℕ))) → RestsBy o p met q → StayEstablished p q
      rests None t = stay_same p q (ap (λ (x : SctpStreams S). x.state) t.1)
      rests (Some packets) t = transmit_stays (Some packets) p met q t

      by : (b : Bool) → PassIf m b p met q → StayEstablished p q
      by true t = rests p.pushed t.0
      by false t = steps_stay p met q t

  over_stays : (n : ℕ) (p q : SctpStreams S) → Over m n p q → StayEstablished p q
  over_stays zero p q h = stay_same p q (ap (λ (x : SctpStreams S). x.state) h)
  over_stays (suc n) p q h = λ e. pass_stays h.0 Again q h.2 (over_stays n p h.0 h.1 e)

  pub polls_stay : (p : SctpStreams S) (r : Result (Option SctpEvent) AllocError) (q : SctpStreams S) → PollsStreams m p r q → StayEstablished p q
  polls_stay p r q h = λ e. pass_stays h.between h.met q h.last (over_stays h.passes p h.between h.over e)

-- ---- a stream that is told to be open

abbrev IsOpening : Met → Type 0
IsOpening (Output (event.Open id label)) = Unit {0}
IsOpening met = ⊥

event_opens : (e : AssocEvent) → IsOpening (event_met e) → ⊥
event_opens assoc.Connected h = h
event_opens assoc.Lost h = h
event_opens (assoc.Readable id) h = h
event_opens (assoc.Writable id) h = h
event_opens (assoc.Finished id) h = h
event_opens (assoc.ResetComplete id) h = h
event_opens (assoc.BufferedAmountLow id) h = h

both_true : (a b : Bool) → (a && b) ≡ true → (a ≡ true) × (b ≡ true)
both_true true b h = (refl, h)
both_true false b h = absurd (true≢false (sym h))

module _ {S : Type 0} (m : AssociationMeaning S) (w : AssociationLaws m) where
  -- a step that tells such a stream leaves an association that runs
  abbrev StepOpens : (SctpStreams S → Met → SctpStreams S → Type 0) → Type 0
  StepOpens step = (p : SctpStreams S) (met : Met) (q : SctpStreams S) → step p met q → IsOpening met → AreRunning m q

  then_opens : (first next : SctpStreams S → Met → SctpStreams S → Type 0) → StepOpens first → StepOpens next → (own : Met) (p between : SctpStreams S)
      (met : Met) (q : SctpStreams S) → first p own between → ThenBy next own between met q → IsOpening met → AreRunning m q
  then_opens first next one other Nothing p between met q h k opens = other between met q k opens
  then_opens first next one other Again p between met q h k opens = absurd (subst IsOpening k.0 opens)
  then_opens first next one other (Output e) p between met q h k opens =
      subst (λ (x : SctpStreams S). AreRunning m x) (sym k.1) (one p (Output e) between h (subst IsOpening k.0 opens))
  then_opens first next one other OutOfMemory p between met q h k opens = absurd (subst IsOpening k.0 opens)

  else_opens : (first next : SctpStreams S → Met → SctpStreams S → Type 0) → StepOpens first → StepOpens next → StepOpens (Else first next)
  else_opens first next one other p met q h opens = then_opens first next one other h.0 p h.1.0 met q h.1.1.0 h.1.1.1 opens

  packet_opens : (a : S) (met : Met) (b : S) → TakesPacket m a met b → IsOpening met → ⊥
  packet_opens a Nothing b h opens = opens
  packet_opens a Again b h opens = opens
  packet_opens a OutOfMemory b h opens = opens
  packet_opens a (Output (event.Transmit packets)) b h opens = opens
  packet_opens a (Output (event.Open id label)) b h opens = h
  packet_opens a (Output (event.Close id pending)) b h opens = opens
  packet_opens a (Output (event.StreamResetComplete id)) b h opens = opens
  packet_opens a (Output (event.Data id binary bytes)) b h opens = opens
  packet_opens a (Output (event.BufferedAmountLow id)) b h opens = opens
  packet_opens a (Output event.AssociationLost) b h opens = opens

  transmit_opens : (pushed : Option (List (List ℕ))) (p : SctpStreams S) (met : Met) (q : SctpStreams S) → TransmitOf m pushed p met q
      → IsOpening met → AreRunning m q
  transmit_opens (Some packets) p met q h opens = absurd (subst IsOpening h.0 opens)
  transmit_opens None p met q h opens = by (m.started p.association) h
    where
      by : (b : Bool) → TransmitIf m b p met q → AreRunning m q
      by false k = absurd (subst IsOpening k.0 opens)
      by true k = absurd (packet_opens p.association met q.association k.0 opens)

  handled_opens : (p : SctpStreams S) (met : Met) (q : SctpStreams S) → TakesEvent m p.association (book_of p) met q.association (book_of q)
      → IsOpening met → AreRunning m q
  handled_opens p met q (NotStarted fresh is same book) opens = absurd (subst IsOpening is opens)
  handled_opens p met q (NoRoom is same book) opens = absurd (subst IsOpening is opens)
  handled_opens p met q (NoEvent started polled is book) opens = absurd (subst IsOpening is opens)
  handled_opens p met q (Event e started polled is after) opens = absurd (event_opens e (subst IsOpening is opens))

  visits_open : (b : Bool) (p : SctpStreams S) (met : Met) (q : SctpStreams S) → (is_established p.state && m.started p.association) ≡ b
      → VisitsIf m b p met q → IsOpening met → AreRunning m q
  visits_open false p met q runs h opens = absurd (subst IsOpening h.0 opens)
  visits_open true p met q runs h opens =
      let two = both_true (is_established p.state) (m.started p.association) runs in
      let tour = tour_uses m w p.last p.entries p.association p.resets met q.association q.resets q.entries h.0 in
      (started_moved m w tour.did.did.acts p.association q.association two.1 tour.did.did.went, ap (λ (x : SctpStreams S). is_established x.state) h.1 ∙ two.0)

  completion_opens : (completed : List ℕ) (p : SctpStreams S) (met : Met) (q : SctpStreams S) → CompletionOf completed p met q → IsOpening met
      → AreRunning m q
  completion_opens [] p met q h opens = absurd (subst IsOpening h.0 opens)
  completion_opens (id ∷ rest) p met q h opens = absurd (subst IsOpening h.0 opens)

  steps_open : (p : SctpStreams S) (met : Met) (q : SctpStreams S) → TakesSteps m p met q → IsOpening met → AreRunning m q
  unfolding TakesSteps
  steps_open p met q h opens =
      else_opens (GivesTransmit m) _ (λ p met q k o. transmit_opens p.pushed p met q k o)
      (else_opens (HandlesEvent m) _ (λ p met q k o. handled_opens p met q k.0 o)
      (else_opens (VisitsEntries m) GivesCompletion (λ p met q k o. visits_open (is_established p.state && m.started p.association) p met q refl k o)
      (λ p met q k o. completion_opens p.completed p met q k o))) (unclosed_streams p) met q h opens

  pass_opens : (p : SctpStreams S) (met : Met) (q : SctpStreams S) → MakesPass m p met q → IsOpening met → AreRunning m q
  unfolding MakesPass
  pass_opens p met q h opens = by p.rests h opens
    where
      rests : (o : Option (List (List ℕ))) → RestsBy o p met q → IsOpening met → AreRunning m q
      rests None t opens = absurd (subst IsOpening t.0 opens)
      rests (Some packets) t opens = transmit_opens (Some packets) p met q t opens

      by : (b : Bool) → PassIf m b p met q → IsOpening met → AreRunning m q
      by true t opens = rests p.pushed t.0 opens
      by false t opens = steps_open p met q t opens

  pub opening_runs : (p : SctpStreams S) (id : ℕ) (label : List ℕ) (q : SctpStreams S) → PollsStreams m p (Ok (Some (event.Open id label))) q
      → AreRunning m q
  opening_runs p id label q h = pass_opens h.between h.met q h.last (subst IsOpening (sym h.answers) tt)
