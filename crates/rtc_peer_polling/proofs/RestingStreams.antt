-- A poll of the streams that gave nothing is followed by one that gives nothing and changes nothing.
use Rattle.std.proofs.Common.{◌≡◌, ◌⊎◌, inl, inr, ℕ, zero, suc, Bool, true, false, List, Option, Some, None, Result, Ok, refl, ap, subst, ◌∙◌}
use Rattle.std.specs.declared.alloc.AllocError.{AllocError}
use Rattle.rtc_parts.specs.declared.assoc_event.AssocEvent.{AssocEvent}
use Rattle.rtc_parts.specs.declared.assoc_event.AssocEvent.TheVariants as assoc
use Rattle.rtc_parts.specs.AssociationMeaning.{AssociationMeaning}
use Rattle.rtc_parts.specs.AssociationLaws.{AssociationLaws}
use Rattle.rtc_sctp_entries.specs.declared.sctp_event.SctpEvent.{SctpEvent}
use Rattle.rtc_sctp_entries.specs.declared.sctp_event.SctpEvent.TheVariants as event
use Rattle.rtc_sctp_entries.specs.declared.met.Met.TheVariants.{Nothing, Again, Output}
use Rattle.rtc_sctp.specs.Streams.{SctpStreams}
use Rattle.rtc_sctp.specs.Polls.{book_of, with_book, event_met, TransmitIf, TransmitOf, HandlesEvent, NotStarted, NoRoom, NoEvent, Event}
use Rattle.rtc_sctp.specs.Polls.{MakesPass, Over, PollsStreams}
use Rattle.rtc_sctp.proofs.RestingLemmas.{AnswersResting, poll_rests, resting_poll}

not_met : (e : AssocEvent) → Nothing ≡ event_met e → ⊥
not_met assoc.Connected h = cc (h)
not_met assoc.Lost h = cc (h)
not_met (assoc.Readable id) h = cc (h)
not_met (assoc.Writable id) h = cc (h)
not_met (assoc.Finished id) h = cc (h)
not_met (assoc.ResetComplete id) h = cc (h)
not_met (assoc.BufferedAmountLow id) h = cc (h)

pub not_sent : (packets : List (List ℕ)) (e : AssocEvent) → Output (event.Transmit packets) ≡ event_met e → ⊥
not_sent packets assoc.Connected h = cc (h)
not_sent packets assoc.Lost h = cc (h)
not_sent packets (assoc.Readable id) h = cc (h)
not_sent packets (assoc.Writable id) h = cc (h)
not_sent packets (assoc.Finished id) h = cc (h)
not_sent packets (assoc.ResetComplete id) h = cc (h)
not_sent packets (assoc.BufferedAmountLow id) h = cc (h)

module _ {S : Type 0} (m : AssociationMeaning S) where
  -- no pass makes work
  pub over_rests : (p : SctpStreams S) → ((q : SctpStreams S) → MakesPass m p Again q → ⊥) → (passes : ℕ) (q : SctpStreams S) → Over m passes p q → q ≡ p
  over_rests p never zero q h = h
  over_rests p never (suc passes) q h =
      absurd (never q (subst (λ (x : SctpStreams S). MakesPass m x Again q) (over_rests p never passes h.0 h.1) h.2))

module _ {S : Type 0} (m : AssociationMeaning S) (w : AssociationLaws m) where
  transmit_if_nothing : (b : Bool) (p q : SctpStreams S) → m.started p.association ≡ b → TransmitIf m b p Nothing q
      → (q ≡ p) × (m.started p.association ≡ true → m.gave p.association None p.association)
  transmit_if_nothing false p q is h = (h.1, λ started. cc)
  transmit_if_nothing true p q is h =
      let same = w.packet_none p.association q.association h.0 in
      (h.1 ∙ ap (λ (a : S). record p { association = a }) same, λ started. subst (λ (a : S). m.gave p.association None a) same h.0)

  pub transmit_nothing : (o : Option (List (List ℕ))) (p q : SctpStreams S) → p.pushed ≡ o → TransmitOf m o p Nothing q
      → (q ≡ p) × (p.pushed ≡ None) × (m.started p.association ≡ true → m.gave p.association None p.association)
  transmit_nothing None p q is h =
      let k = transmit_if_nothing (m.started p.association) p q refl h in
      (k.0, is, k.1)
  transmit_nothing (Some packets) p q is h = cc (h.0)

  abbrev pub GaveNoEvent : SctpStreams S → Type 0
  GaveNoEvent p = (m.started p.association ≡ false) ⊎ m.polled p.association None p.association

  same_book : (p q : SctpStreams S) → q ≡ with_book (book_of q) q.association p → q.association ≡ p.association → book_of q ≡ book_of p → q ≡ p
  same_book p q is same book =
      is ∙ ap (λ b. with_book b q.association p) book ∙ ap (λ (a : S). with_book (book_of p) a p) same

  pub event_nothing : (p q : SctpStreams S) → HandlesEvent m p Nothing q → (q ≡ p) × GaveNoEvent p
  event_nothing p q (NotStarted fresh met same book, k) = (same_book p q k same book, inl fresh)
  event_nothing p q (NoRoom met same book, k) = cc (met)
  event_nothing p q (NoEvent started polled met book, k) =
      let same = w.event_none p.association q.association polled in
      (same_book p q k same book, inr (subst (λ (a : S). m.polled p.association None a) same polled))
  event_nothing p q (Event e started polled met after, k) = absurd (not_met e met)

  -- polls of these streams give nothing and change nothing
  abbrev pub StreamsRest : SctpStreams S → Type 0
  StreamsRest p = (r : Result (Option SctpEvent) AllocError) (q : SctpStreams S) → PollsStreams m p r q → (r ≡ Ok None) × (q ≡ p)

  -- what a poll that gave nothing leaves
  pub polled_rest : (p q : SctpStreams S) → PollsStreams m p (Ok None) q → StreamsRest q × (q.pushed ≡ None)
  polled_rest p q h =
      let left = poll_rests m p q h in
      (λ r s k. subst (λ (o : Option (List (List ℕ))). AnswersResting m o q r s) left.1 (resting_poll m q r s left.0 k), left.1)
