-- The packets of the association that a poll of the streams gives are short enough for a datagram of DTLS.
use Rattle.std.proofs.Common.{◌≡◌, ◌≤◌, ◌∷◌, [], ◌++◌, ℕ, All, List, length, drop, Option, Some, None, Ok, sym, ap, subst, slice_get}
use Rattle.std.proofs.lemmas.List.Elements.{All-nil, All-cons, All-head, All-tail, All-append}
use Rattle.rtc_parts.specs.AssociationMeaning.{AssociationMeaning}
use Rattle.rtc_parts.specs.AssociationLaws.{AssociationLaws}
use Rattle.rtc_parts.specs.AssociationActs.{AssociationAct, Moved, Started, Opened, Wrote, Ended, Given, Taken, Read, Told, Stirred}
use Rattle.rtc_parts.specs.AssociationWords.{taken}
use Rattle.rtc_sctp_entries.specs.declared.sctp_event.SctpEvent.{SctpEvent}
use Rattle.rtc_sctp_entries.specs.declared.sctp_event.SctpEvent.TheVariants as event
use Rattle.rtc_sctp.specs.Streams.{SctpStreams, ArePushedShort}
use Rattle.rtc_sctp.specs.Polls.{PollsStreams}
use Rattle.rtc_sctp_laws.specs.StreamMessages.{pushed_packets}
use Rattle.rtc_sctp_laws.proofs.PollActs.{poll_did}
use Rattle.rtc_peer_polling.specs.StreamStages.{IsShortTransmit}

abbrev AreShort : List (List ℕ) → Type 0
AreShort packets = All (λ packet. length packet ≤ 1900) packets

short_front : (xs ys : List (List ℕ)) → AreShort (xs ++ ys) → AreShort xs
short_front [] ys h = All-nil (λ packet. length packet ≤ 1900)
short_front (x ∷ xs) ys h =
    All-cons (λ packet. length packet ≤ 1900) x xs (All-head (λ packet. length packet ≤ 1900) x (xs ++ ys) h)
    (short_front xs ys (All-tail (λ packet. length packet ≤ 1900) x (xs ++ ys) h))

pushed_short : (pushed : Option (List (List ℕ))) → ArePushedShort pushed → AreShort (pushed_packets pushed)
pushed_short None h = All-nil (λ packet. length packet ≤ 1900)
pushed_short (Some packets) h = h

-- the first of some packets, and those behind it
pub first_and_rest : (packets : List (List ℕ)) (packet : List ℕ) → slice_get packets 0 ≡ Some packet → packets ≡ packet ∷ drop 1 packets
first_and_rest [] packet e = cc (e)
first_and_rest (x ∷ packets) packet e = let is : x ≡ packet = cc (e) in ap (λ (l : List ℕ). l ∷ packets) is

module _ {S : Type 0} (m : AssociationMeaning S) (w : AssociationLaws m) where
  taken_short : (acts : List AssociationAct) (a b : S) → Moved m a acts b → AreShort (taken acts)
  taken_short [] a b h = All-nil (λ packet. length packet ≤ 1900)
  taken_short (Started ∷ acts) a b h = taken_short acts h.0 b h.1.1
  taken_short (Opened s g ∷ acts) a b h = taken_short acts h.0 b h.1.1
  taken_short (Wrote s g i bytes ∷ acts) a b h = taken_short acts h.0 b h.1.1
  taken_short (Ended s g ∷ acts) a b h = taken_short acts h.0 b h.1.1
  taken_short (Given packet ∷ acts) a b h = taken_short acts h.0 b h.1.1
  taken_short (Taken packet ∷ acts) a b h =
      All-cons (λ packet. length packet ≤ 1900) packet (taken acts) (w.packet_short a h.0 packet h.1.0) (taken_short acts h.0 b h.1.1)
  taken_short (Read s g i bytes ∷ acts) a b h = taken_short acts h.0 b h.1.1
  taken_short (Told e ∷ acts) a b h = taken_short acts h.0 b h.1.1
  taken_short (Stirred why ∷ acts) a b h = taken_short acts h.0 b h.1.1

  -- where those that came back are short, so are those of a poll
  pub poll_short : (p : SctpStreams S) (e : SctpEvent) (q : SctpStreams S) → PollsStreams m p (Ok (Some e)) q → ArePushedShort p.pushed → IsShortTransmit e
  poll_short p (event.Transmit packets) q h short =
      let did = poll_did m w p (Ok (Some (event.Transmit packets))) q h in
      let outs = subst (λ (l : List (List ℕ)). AreShort l) did.did.taken_is (taken_short did.did.acts p.association q.association did.did.went) in
      let all = All-append (λ packet. length packet ≤ 1900) (pushed_packets p.pushed) did.outs (pushed_short p.pushed short) outs in
      short_front packets (pushed_packets q.pushed) (subst (λ (l : List (List ℕ)). AreShort l) (sym did.sent_is) all)
  poll_short p (event.Open id label) q h short = tt
  poll_short p (event.Close id pending) q h short = tt
  poll_short p (event.StreamResetComplete id) q h short = tt
  poll_short p (event.Data id binary bytes) q h short = tt
  poll_short p (event.BufferedAmountLow id) q h short = tt
  poll_short p event.AssociationLost q h short = tt
