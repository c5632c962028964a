-- What the starting calls leave and keep.
use Rattle.std.proofs.Common.{ℕ, ◌≡◌, List, true, false, None, Result, Ok, Err, refl, sym, ap, subst, ◌∙◌}
use Rattle.rtc_parts.specs.declared.assoc_error.AssocError.{AssocError}
use Rattle.rtc_parts.specs.AssociationActs.{Starts, ByConnect, ByAccept, BySnap}
use Rattle.rtc_parts.specs.AssociationLaws.{LeavesStarted}
use Rattle.rtc_assoc_state.specs.declared.stream_row.StreamRow.{StreamRow}
use Rattle.rtc_assoc_state.specs.Contents.{Contents, is_started, generation_of}
use Rattle.rtc_assoc_state.specs.Calls.{connected, accepted, snapped, started_as, said_hello}
use Rattle.rtc_assoc_state.specs.PlainMeaning.{plain_meaning, Does, Leaves}
use Rattle.rtc_assoc_state.proofs.RaiseLemmas.{Raises, raises_none}
use Rattle.rtc_assoc_state.specs.Streams.{stream_of}
use Rattle.rtc_assoc_state.proofs.DoesLemmas.{refused_changes_nothing, does_leaves}

-- starting
pub started-connected : (now max_send : ℕ) (p : Contents) → (is_started (connected now max_send p) ≡ true) × ((connected now max_send p).limits.max_send ≡ max_send)
unfolding started_as said_hello
started-connected now max_send p = (refl, refl)

pub started-accepted : (now max_send : ℕ) (p : Contents) → (is_started (accepted now max_send p) ≡ true) × ((accepted now max_send p).limits.max_send ≡ max_send)
unfolding started_as
started-accepted now max_send p = (refl, refl)

pub started-snapped : (now max_send : ℕ) (p : Contents) → (is_started (snapped now max_send p) ≡ true) × ((snapped now max_send p).limits.max_send ≡ max_send)
unfolding snapped started_as
started-snapped now max_send p = (refl, refl)

pub leaves_started : (max_send : ℕ) (p t q : Contents) (r : Result (Unit {0}) AssocError) → is_started p ≡ false → (is_started t ≡ true) × (t.limits.max_send ≡ max_send) → Does None p (Leaves t) r q → LeavesStarted plain_meaning max_send r q
leaves_started max_send p t q (Ok x) f s h = (ap is_started h.1 ∙ s.0, ap (λ (c : Contents). c.limits.max_send) h.1 ∙ s.1)
leaves_started max_send p t q (Err e) f s h = ap is_started (refused_changes_nothing None p q (Leaves t) e h) ∙ f

-- the starting calls keep generations, completed resets and thresholds
raises-connected : (now max_send : ℕ) (p : Contents) → Raises p.streams (connected now max_send p).streams p.events (connected now max_send p).events
unfolding started_as said_hello
raises-connected now max_send p = raises_none p.streams p.events

raises-accepted : (now max_send : ℕ) (p : Contents) → Raises p.streams (accepted now max_send p).streams p.events (accepted now max_send p).events
unfolding started_as
raises-accepted now max_send p = raises_none p.streams p.events

raises-snapped : (now max_send : ℕ) (p : Contents) → Raises p.streams (snapped now max_send p).streams p.events (snapped now max_send p).events
unfolding snapped started_as
raises-snapped now max_send p = raises_none p.streams p.events

pub raised_starts : (p q : Contents) → Starts plain_meaning p q → Raises p.streams q.streams p.events q.events
raised_starts p q (ByConnect now m h) = subst (λ (c : Contents). Raises p.streams c.streams p.events c.events) (sym h.1) (raises-connected now m p)
raised_starts p q (ByAccept now m h) = subst (λ (c : Contents). Raises p.streams c.streams p.events c.events) (sym h.1) (raises-accepted now m p)
raised_starts p q (BySnap now m l o h) = subst (λ (c : Contents). Raises p.streams c.streams p.events c.events) (sym h.1) (raises-snapped now m p)

-- and what is unread
inbox-connected : (now max_send : ℕ) (p : Contents) → (connected now max_send p).inbox ≡ p.inbox
unfolding started_as said_hello
inbox-connected now max_send p = refl

inbox-accepted : (now max_send : ℕ) (p : Contents) → (accepted now max_send p).inbox ≡ p.inbox
unfolding started_as
inbox-accepted now max_send p = refl

inbox-snapped : (now max_send : ℕ) (p : Contents) → (snapped now max_send p).inbox ≡ p.inbox
unfolding snapped started_as
inbox-snapped now max_send p = refl

pub inbox_starts : (p q : Contents) → Starts plain_meaning p q → q.inbox ≡ p.inbox
inbox_starts p q (ByConnect now m h) = ap (λ (c : Contents). c.inbox) h.1 ∙ inbox-connected now m p
inbox_starts p q (ByAccept now m h) = ap (λ (c : Contents). c.inbox) h.1 ∙ inbox-accepted now m p
inbox_starts p q (BySnap now m l o h) = ap (λ (c : Contents). c.inbox) h.1 ∙ inbox-snapped now m p

-- and the streams
pub streams-connected : (now max_send : ℕ) (p : Contents) → (connected now max_send p).streams ≡ p.streams
unfolding started_as said_hello
streams-connected now max_send p = refl

pub streams-accepted : (now max_send : ℕ) (p : Contents) → (accepted now max_send p).streams ≡ p.streams
unfolding started_as
streams-accepted now max_send p = refl

pub streams-snapped : (now max_send : ℕ) (p : Contents) → (snapped now max_send p).streams ≡ p.streams
unfolding snapped started_as
streams-snapped now max_send p = refl

pub streams_start : (p q : Contents) → Starts plain_meaning p q → q.streams ≡ p.streams
streams_start p q (ByConnect now m h) = ap (λ (c : Contents). c.streams) h.1 ∙ streams-connected now m p
streams_start p q (ByAccept now m h) = ap (λ (c : Contents). c.streams) h.1 ∙ streams-accepted now m p
streams_start p q (BySnap now m l o h) = ap (λ (c : Contents). c.streams) h.1 ∙ streams-snapped now m p

-- a call that leaves the streams, or is refused, leaves each generation
pub same_generation : (p t q : Contents) (r : Result (Unit {0}) AssocError) (id : ℕ) → t.streams ≡ p.streams → Does None p (Leaves t) r q → generation_of q id ≡ generation_of p id
same_generation p t q r id same h = does_leaves (λ (c : Contents). generation_of c id ≡ generation_of p id) None p t q r refl (ap (λ (l : List StreamRow). (stream_of id l).generation) same) h
