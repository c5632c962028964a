-- Polls of streams establish no association of which it is not to be reported that it is connected.
use Rattle.std.proofs.Common.{◌≡◌, ◌∙◌, ◌&&◌, ◌∷◌, ℕ, zero, suc, Bool, true, false, true≢false, List, [], Option, Some, None, Result, refl, sym, ap, subst}
use Rattle.std.specs.declared.alloc.AllocError.{AllocError}
use Rattle.rtc_parts.specs.declared.assoc_event.AssocEvent.{AssocEvent}
use Rattle.rtc_parts.specs.declared.assoc_event.AssocEvent.TheVariants as assoc
use Rattle.rtc_assoc_state.specs.Contents.{Contents}
use Rattle.rtc_assoc_state.specs.PlainMeaning.{plain_meaning}
use Rattle.rtc_assoc_state.proofs.DoesLemmas.{polls_none, polls_some, transmits_none, transmits_some}
use Rattle.rtc_sctp_entries.specs.declared.met.Met.{Met}
use Rattle.rtc_sctp_entries.specs.declared.met.Met.TheVariants.{Nothing, Again, Output, OutOfMemory}
use Rattle.rtc_sctp_entries.specs.declared.sctp_event.SctpEvent.{SctpEvent}
use Rattle.rtc_sctp_entries.specs.declared.sctp_event.SctpEvent.TheVariants as event
use Rattle.rtc_sctp.specs.Streams.{SctpStreams, is_established}
use Rattle.rtc_sctp.specs.Polls.{AfterEvent, Book, CompletionOf, Else, Event, GivesCompletion, GivesTransmit, HandlesEvent, TakesSteps, RestsBy, PassIf, MakesPass, NoEvent, NoRoom, NotStarted, Over, PollsStreams, TakesEvent, TakesPacket, ThenBy, TransmitIf, TransmitOf, VisitsEntries, VisitsIf, book_of, unclosed_streams}
use Rattle.rtc_run_laws.proofs.EventEnds.{AreEvents, events_rest}

-- an event says something else than that the association is connected
abbrev pub TellsOther : AssocEvent → Type 0
TellsOther assoc.Connected = ⊥
TellsOther assoc.Lost = Unit {0}
TellsOther (assoc.Readable id) = Unit {0}
TellsOther (assoc.Writable id) = Unit {0}
TellsOther (assoc.Finished id) = Unit {0}
TellsOther (assoc.ResetComplete id) = Unit {0}
TellsOther (assoc.BufferedAmountLow id) = Unit {0}

-- the association is not established, and it is not to be reported that it is connected
abbrev pub IsUnestablished : SctpStreams Contents → Type 0
IsUnestablished p = (is_established p.state ≡ false) × AreEvents TellsOther p.association.events

abbrev Streams : Type 0
Streams = SctpStreams Contents

to : (p n : Streams) → p ≡ n → IsUnestablished n → IsUnestablished p
to p n is h = subst (λ (x : Streams). IsUnestablished x) (sym is) h

pub unestablished_alike : (p q : Streams) → q.state ≡ p.state → q.association.events ≡ p.association.events → IsUnestablished p → IsUnestablished q
unestablished_alike p q state events h = (ap is_established state ∙ h.0, subst (AreEvents TellsOther) (sym events) h.1)

abbrev StepWaits : (Streams → Met → Streams → Type 0) → Type 0
StepWaits step = (p : Streams) (met : Met) (q : Streams) → step p met q → IsUnestablished p → IsUnestablished q

then_waits : (next : Streams → Met → Streams → Type 0) → StepWaits next → (own : Met) (p : Streams) (met : Met) (q : Streams) → ThenBy next own p met q
    → IsUnestablished p → IsUnestablished q
then_waits next one Nothing p met q h k = one p met q h k
then_waits next one Again p met q h k = to q p h.1 k
then_waits next one (Output e) p met q h k = to q p h.1 k
then_waits next one OutOfMemory p met q h k = to q p h.1 k

else_waits : (first next : Streams → Met → Streams → Type 0) → StepWaits first → StepWaits next → StepWaits (Else first next)
else_waits first next one other p met q h k = then_waits next other h.0 h.1.0 met q h.1.1.1 (one p h.0 h.1.0 h.1.1.0 k)

-- ---- packets

packet_events : (a : Contents) (met : Met) (b : Contents) → TakesPacket plain_meaning a met b → b.events ≡ a.events
packet_events a Nothing b h = ap (λ (x : Contents). x.events) (transmits_none a.packets a b h).1
packet_events a (Output (event.Transmit packets)) b h = let w = transmits_some a.packets a b h.0 h.1 in ap (λ (x : Contents). x.events) w.1.1
packet_events a (Output (event.Open id label)) b h = absurd h
packet_events a (Output (event.Close id pending)) b h = absurd h
packet_events a (Output (event.StreamResetComplete id)) b h = absurd h
packet_events a (Output (event.Data id binary bytes)) b h = absurd h
packet_events a (Output (event.BufferedAmountLow id)) b h = absurd h
packet_events a (Output event.AssociationLost) b h = absurd h
packet_events a Again b h = absurd h
packet_events a OutOfMemory b h = ap (λ (x : Contents). x.events) h

transmit_waits : (pushed : Option (List (List ℕ))) (p : Streams) (met : Met) (q : Streams) → TransmitOf plain_meaning pushed p met q → IsUnestablished p
    → IsUnestablished q
transmit_waits (Some packets) p met q h k = to q _ h.1 k
transmit_waits None p met q h k = by (plain_meaning.started p.association) h
  where
    by : (b : Bool) → TransmitIf plain_meaning b p met q → IsUnestablished q
    by false t = to q p t.1 k
    by true t = unestablished_alike p q (ap (λ (x : Streams). x.state) t.1) (packet_events p.association met q.association t.0) k

-- ---- events

after_state : (e : AssocEvent) (b b' : Book) → TellsOther e → AfterEvent e b b' → b'.state ≡ b.state
after_state assoc.Connected b b' other h = absurd other
after_state assoc.Lost b b' other h = ap (λ (x : Book). x.state) h
after_state (assoc.Readable id) b b' other h = ap (λ (x : Book). x.state) h
after_state (assoc.Writable id) b b' other h = ap (λ (x : Book). x.state) h
after_state (assoc.Finished id) b b' other h = ap (λ (x : Book). x.state) h.1
after_state (assoc.ResetComplete id) b b' other h = ap (λ (x : Book). x.state) h
after_state (assoc.BufferedAmountLow id) b b' other h = ap (λ (x : Book). x.state) h

event_waits : (p : Streams) (met : Met) (q : Streams) → TakesEvent plain_meaning p.association (book_of p) met q.association (book_of q)
    → IsUnestablished p → IsUnestablished q
event_waits p met q (NotStarted fresh is same book) k =
    unestablished_alike p q (ap (λ (b : Book). b.state) book) (ap (λ (x : Contents). x.events) same) k
event_waits p met q (NoRoom is same book) k =
    unestablished_alike p q (ap (λ (b : Book). b.state) book) (ap (λ (x : Contents). x.events) same) k
event_waits p met q (NoEvent started polled is book) k =
    unestablished_alike p q (ap (λ (b : Book). b.state) book)
    (ap (λ (x : Contents). x.events) (polls_none p.association.events p.association q.association polled).1) k
event_waits p met q (Event e started polled is after) k =
    let w = polls_some p.association.events p.association q.association e polled in
    let rest = events_rest TellsOther e p.association.events w.0.rest w.0.is k.1 in (
      ap is_established (after_state e (book_of p) (book_of q) rest.0 after) ∙ k.0,
      subst (λ (x : Contents). AreEvents TellsOther x.events) (sym w.1) rest.1,
    )

-- ---- what is not visited

not_both : (a b : Bool) → a ≡ false → (a && b) ≡ true → ⊥
not_both true b e h = true≢false e
not_both false b e h = true≢false (sym h)

visits_wait : (p : Streams) (met : Met) (q : Streams) → VisitsEntries plain_meaning p met q → IsUnestablished p → IsUnestablished q
visits_wait p met q h k = by (is_established p.state && plain_meaning.started p.association) refl h
  where
    by : (b : Bool) → (is_established p.state && plain_meaning.started p.association) ≡ b → VisitsIf plain_meaning b p met q → IsUnestablished q
    by true e t = absurd (not_both (is_established p.state) (plain_meaning.started p.association) k.0 e)
    by false e t = to q p t.1 k

completion_waits : (completed : List ℕ) (p : Streams) (met : Met) (q : Streams) → CompletionOf completed p met q → IsUnestablished p → IsUnestablished q
completion_waits [] p met q h k = to q _ h.1 k
completion_waits (id ∷ rest) p met q h k = to q _ h.1 k

-- ---- passes

steps_wait : (p : Streams) (met : Met) (q : Streams) → TakesSteps plain_meaning p met q → IsUnestablished p → IsUnestablished q
unfolding TakesSteps
steps_wait p met q h k =
    else_waits (GivesTransmit plain_meaning) _ (λ p met q t x. transmit_waits p.pushed p met q t x)
    (else_waits (HandlesEvent plain_meaning) _ (λ p met q t x. event_waits p met q t.0 x)
    (else_waits (VisitsEntries plain_meaning) GivesCompletion (λ p met q t x. visits_wait p met q t x)
    (λ p met q t x. completion_waits p.completed p met q t x))) (unclosed_streams p) met q h k

pass_waits : (p : Streams) (met : Met) (q : Streams) → MakesPass plain_meaning p met q → IsUnestablished p → IsUnestablished q
unfolding MakesPass
pass_waits p met q h k = by p.rests h
  where
    rests : (o : Option (List (List ℕ))) → RestsBy o p met q → IsUnestablished q
    rests None t = to q p t.1 k
    rests (Some packets) t = to q _ t.1 k

    by : (b : Bool) → PassIf plain_meaning b p met q → IsUnestablished q
    by true t = rests p.pushed t.0
    by false t = steps_wait p met q t k

over_waits : (n : ℕ) (p q : Streams) → Over plain_meaning n p q → IsUnestablished p → IsUnestablished q
over_waits zero p q h k = to q p h k
over_waits (suc n) p q h k = pass_waits h.0 Again q h.2 (over_waits n p h.0 h.1 k)

pub poll_waits : (p : Streams) (r : Result (Option SctpEvent) AllocError) (q : Streams) → PollsStreams plain_meaning p r q → IsUnestablished p
    → IsUnestablished q
poll_waits p r q h k = pass_waits h.between h.met q h.last (over_waits h.passes p h.between h.over k)
