-- Calls that send, one after the other.
use Rattle.std.proofs.Common.{ℕ, ◌+◌, arith, append-nil, append_assoc, ◌≡◌, Bool, true, false, cond, List, [], ◌∷◌, ◌++◌, Result, Ok, Err, refl, sym, ap, subst, ◌∙◌}
use Rattle.std.specs.Result.{OnOk}
use Rattle.std.specs.Bool.{OnTrue}
use Rattle.rtc_assoc_state.specs.Pieces.{packets_from, ReadBack}
use Rattle.rtc_assoc_state.specs.Inbox.{Inbox}
use Rattle.rtc_assoc_state.specs.Outbox.{Outbox}
use Rattle.rtc_assoc_state.specs.Contents.{Contents}
use Rattle.rtc_assoc_state.specs.PlainMeaning.{Sends}
use Rattle.rtc_assoc_state.specs.Calls.{greeted, acknowledged, lost, at_moment, timed, hello_due, items_due}
use Rattle.rtc_assoc_end.proofs.SaysLemmas.{AllSay, all_say_none, all_say_one, all_say_both, all_say_items, says_hello, queues_same, queues_more, queues_from, queues_then}

pub on_ok : {T E : Type 0} (r : Result T E) (P Q : Type 0) → (P → Q) → OnOk r P → OnOk r Q
on_ok (Ok x) P Q f h = f h
on_ok (Err e) P Q f h = tt

pub packets-greeted : (p : Contents) → (greeted p).packets ≡ p.packets
unfolding greeted
packets-greeted p = refl

pub packets-acknowledged : (n : ℕ) (p : Contents) → (acknowledged n p).packets ≡ p.packets
unfolding acknowledged
packets-acknowledged n p = refl

pub packets-lost : (p : Contents) → (lost p).packets ≡ p.packets
unfolding lost
packets-lost p = refl

-- where nothing is queued
pub sends_nothing : (p r q : Contents) → r.packets ≡ p.packets → q ≡ r → Sends p r q
sends_nothing p r q e h = (h, queues_same p q (ap (λ (x : Contents). x.packets) h ∙ e))

pub sends_greeted : (p q : Contents) → q ≡ greeted p → Sends p (greeted p) q
sends_greeted p q h = sends_nothing p (greeted p) q (packets-greeted p) h

pub sends_acknowledged : (n : ℕ) (p q : Contents) → q ≡ acknowledged n p → Sends p (acknowledged n p) q
sends_acknowledged n p q h = sends_nothing p (acknowledged n p) q (packets-acknowledged n p) h

pub sends_lost : (p q : Contents) → q ≡ lost p → Sends p (lost p) q
sends_lost p q h = sends_nothing p (lost p) q (packets-lost p) h

-- an end that queued nothing, and then sends
pub sends_after : (o p r q : Contents) → p.packets ≡ o.packets → Sends p r q → Sends o r q
sends_after o p r q e h = (h.0, queues_from o p q e h.1)

pub sends_data : (n : ℕ) (o m q : Contents) (f : Contents → Contents) → m ≡ acknowledged n (greeted o) → Sends m (f m) q → Sends o (f (acknowledged n (greeted o))) q
sends_data n o m q f e h =
    let same : m.packets ≡ o.packets = ap (λ (x : Contents). x.packets) e ∙ packets-acknowledged n (greeted o) ∙ packets-greeted o in
    (h.0 ∙ ap f e, queues_from o m q same h.1)

-- the moment is noted after a packet is taken
pub sends_noted : (now : ℕ) (p r m q : Contents) → Sends p r m → q ≡ at_moment now m → Sends p (at_moment now r) q
unfolding at_moment
sends_noted now p r m q h e =
    (e ∙ ap (at_moment now) h.0, queues_then p m q h.1 (ap (λ (x : Contents). x.packets) e) (ap (λ (x : Contents). x.inbox) e) (ap (λ (x : Contents). x.outbox) e))

pub all_say_if : (q : Contents) (b : Bool) (xs : List (List ℕ)) → (b ≡ true → AllSay q xs) → AllSay q (cond b xs [])
all_say_if q true xs h = h refl
all_say_if q false xs h = all_say_none q

-- the packets of all unacknowledged items
pub all_say_resent : (q : Contents) (inbox : Inbox) (outbox : Outbox) → q.inbox ≡ inbox → q.outbox ≡ outbox → ReadBack inbox.received (outbox.acked + 1) outbox.items → AllSay q (packets_from inbox.received (outbox.acked + 1) outbox.items)
all_say_resent q inbox outbox i o r =
    let P : Inbox → Type 0 = λ (x : Inbox). ReadBack x.received (q.outbox.acked + 1) q.outbox.items → AllSay q (packets_from x.received (q.outbox.acked + 1) q.outbox.items) in
    let Q : Outbox → Type 0 = λ (x : Outbox). ReadBack inbox.received (x.acked + 1) x.items → AllSay q (packets_from inbox.received (x.acked + 1) x.items) in
    let here : P q.inbox = λ b. all_say_items q (q.outbox.acked + 1) [] q.outbox.items [] (sym (append-nil q.outbox.items)) (omega arith) b in
    let there : Q q.outbox = subst P i here in
    subst Q o there r

-- time that passes, by what is due
pub sends_timed : (now : ℕ) (p q : Contents) (hello items : Bool) (first second : List (List ℕ)) → hello ≡ hello_due now p → items ≡ items_due now p
    → first ≡ cond hello ((1 ∷ []) ∷ []) [] → second ≡ cond items (packets_from p.inbox.received (p.outbox.acked + 1) p.outbox.items) []
    → OnTrue items (ReadBack p.inbox.received (p.outbox.acked + 1) p.outbox.items)
    → q ≡ record p { clock = record { now = now; hello_sent = cond hello now p.clock.hello_sent; items_sent = cond items now p.clock.items_sent }; packets = p.packets ++ (first ++ second) }
    → Sends p (timed now p) q
unfolding timed
sends_timed now p q hello items first second h i f s r e =
    let packets_is : q.packets ≡ p.packets ++ (first ++ second) = ap (λ (x : Contents). x.packets) e in
    let first_says : AllSay q first = subst (AllSay q) (sym f) (all_say_if q hello ((1 ∷ []) ∷ []) (λ _. all_say_one q (1 ∷ []) (says_hello q))) in
    let inbox_is : q.inbox ≡ p.inbox = ap (λ (x : Contents). x.inbox) e in
    let outbox_is : q.outbox ≡ p.outbox = ap (λ (x : Contents). x.outbox) e in
    let second_says : AllSay q second = subst (AllSay q) (sym s) (all_say_if q items (packets_from p.inbox.received (p.outbox.acked + 1) p.outbox.items) (λ due. all_say_resent q p.inbox p.outbox inbox_is outbox_is (subst (λ (b : Bool). OnTrue b (ReadBack p.inbox.received (p.outbox.acked + 1) p.outbox.items)) due r))) in
    (e ∙ whole, queues_more p q (first ++ second) packets_is (all_say_both q first second first_says second_says))
  where
    whole : record p { clock = record { now = now; hello_sent = cond hello now p.clock.hello_sent; items_sent = cond items now p.clock.items_sent }; packets = p.packets ++ (first ++ second) } ≡ timed now p
    whole = rw (f, s, h, i, ← append_assoc) refl
