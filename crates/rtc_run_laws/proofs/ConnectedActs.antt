-- Acts by which no item comes: an end that is connected stays so, and one of which that is not to be reported is not, unless it becomes so.
use Rattle.std.proofs.Common.{◌≡◌, ◌∙◌, ◌≤◌, inr, ◌∷◌, ℕ, Bool, true, false, true≢false, List, [], refl, sym, ap, subst, arith}
use Rattle.rtc_parts.specs.AssociationActs.{AssociationAct, Given, Acted, Moved, moved-one}
use Rattle.rtc_parts.specs.AssociationWords.{given}
use Rattle.rtc_assoc_state.specs.Contents.{Contents, is_started}
use Rattle.rtc_assoc_state.specs.PlainMeaning.{plain_meaning}
use Rattle.rtc_assoc_state.proofs.PlainLaws.{plain_laws}
use Rattle.rtc_sctp_laws.proofs.ClosingPolls.{started_moved}
use Rattle.rtc_run_laws.proofs.CalmActs.{received_rises}
use Rattle.rtc_run_laws.proofs.EndReports.{act_reports, given_rises, is_connected}
use Rattle.rtc_run_laws.proofs.EventEnds.{AreEvents, events_on, given_events}
use Rattle.rtc_run_laws.proofs.QuietActs.{given_none}
use Rattle.rtc_run_laws.proofs.UnestablishedPolls.{TellsOther}

-- no item came, and it is connected as it was
abbrev pub IsAsBefore : Contents → Contents → Type 0
IsAsBefore a b = (b.inbox.received ≡ a.inbox.received) × (is_connected b ≡ is_connected a)

act_rises : (p q : Contents) (act : AssociationAct) → Acted plain_meaning p act q → q.inbox.received ≡ p.inbox.received → is_connected p ≡ true
    → is_connected q ≡ true
act_rises p q (Given b) h same e = given_rises p q h.0 b h.1.0 h.1.1 same e
act_rises p q act h same e = (act_reports p q act refl h).rises e

pub between_same : (a b c : ℕ) → a ≤ b → b ≤ c → c ≡ a → (b ≡ a) × (c ≡ b)
between_same a b c one two e = (omega (arith, one, two, e), omega (arith, one, two, e))

-- counts of items before, behind the first act, and at last
counts : (act : AssociationAct) (acts : List AssociationAct) (p n q : Contents) → Acted plain_meaning p act n → Moved plain_meaning n acts q
    → q.inbox.received ≡ p.inbox.received → (n.inbox.received ≡ p.inbox.received) × (q.inbox.received ≡ n.inbox.received)
counts act acts p n q h k same =
    between_same p.inbox.received n.inbox.received q.inbox.received (received_rises (act ∷ []) p n (moved-one plain_meaning p n act h))
    (received_rises acts n q k) same

pub connected_rises : (acts : List AssociationAct) (p q : Contents) → Moved plain_meaning p acts q → q.inbox.received ≡ p.inbox.received
    → is_connected p ≡ true → is_connected q ≡ true
connected_rises [] p q h same e = ap is_connected h ∙ e
connected_rises (act ∷ acts) p q h same e =
    let count = counts act acts p h.0 q h.1.0 h.1.1 same in connected_rises acts h.0 q h.1.1 count.1 (act_rises p h.0 act h.1.0 count.0 e)

-- what is between two that are alike is alike
pub alike_between : (a b c : Bool) → (a ≡ true → b ≡ true) → (b ≡ true → c ≡ true) → c ≡ a → (b ≡ a) × (c ≡ b)
alike_between true b c one two same = (one refl, same ∙ sym (one refl))
alike_between false true c one two same = absurd (true≢false (sym (two refl) ∙ same))
alike_between false false c one two same = (refl, same)

act_events : (p q : Contents) (act : AssociationAct) → Acted plain_meaning p act q → IsAsBefore p q → AreEvents TellsOther p.events
    → AreEvents TellsOther q.events
act_events p q (Given b) h same k =
    given_events TellsOther tt (λ n. tt) (λ n. tt) p q h.0 b h.1.0 h.1.1 same.0 (inr same.1) k
act_events p q act h same k = events_on TellsOther p q (act_reports p q act refl h) k

pub others_moved : (acts : List AssociationAct) (p q : Contents) → Moved plain_meaning p acts q → IsAsBefore p q → AreEvents TellsOther p.events
    → AreEvents TellsOther q.events
others_moved [] p q h same k = subst (λ (x : Contents). AreEvents TellsOther x.events) (sym h) k
others_moved (act ∷ acts) p q h same k =
    let count = counts act acts p h.0 q h.1.0 h.1.1 same.0 in
    let alike =
    alike_between (is_connected p) (is_connected h.0) (is_connected q) (act_rises p h.0 act h.1.0 count.0)
    (connected_rises acts h.0 q h.1.1 count.1) same.1 in
    others_moved acts h.0 q h.1.1 (count.1, alike.1) (act_events p h.0 act h.1.0 (count.0, alike.0) k)

-- one that was started is connected as it was, by acts without a packet
pub connected_still : (acts : List AssociationAct) (p q : Contents) → Moved plain_meaning p acts q → given acts ≡ [] → is_started p ≡ true
    → is_connected q ≡ is_connected p
connected_still [] p q h none started = ap is_connected h
connected_still (act ∷ acts) p q h none started =
    let quiet = given_none act acts none in
    connected_still acts h.0 q h.1.1 quiet.1
    (started_moved plain_meaning plain_laws (act ∷ []) p h.0 started (moved-one plain_meaning p h.0 act h.1.0))
    ∙ (act_reports p h.0 act quiet.0 h.1.0).still started
