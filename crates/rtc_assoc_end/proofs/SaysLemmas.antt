-- What queued packets say.
use Rattle.std.proofs.Common.{ℕ, ◌≡◌, ◌+◌, inl, inr, List, [], ◌∷◌, ◌++◌, length, refl, sym, ap, subst, ◌∙◌, arith, append_assoc, length-append, Option, Some, None}
use Rattle.rtc_parts.specs.Among.{Member}
use Rattle.rtc_parts.proofs.AmongLemmas.{member-append}
use Rattle.rtc_assoc_state.specs.declared.item.Item.{Item}
use Rattle.rtc_assoc_state.specs.declared.frame.Frame.{Frame}
use Rattle.rtc_assoc_state.specs.declared.frame.Frame.TheVariants.{Hello, Welcome, Data, Acknowledgement, Shutdown}
use Rattle.rtc_assoc_state.specs.Packets.{frame_in, data_bytes, acknowledgement_bytes}
use Rattle.rtc_assoc_state.specs.Pieces.{packets_from, ReadBack}
use Rattle.rtc_assoc_state.proofs.PacketLemmas.{hello_reads_back, welcome_reads_back, shutdown_reads_back}
use Rattle.rtc_assoc_state.specs.Inbox.{Inbox}
use Rattle.rtc_assoc_state.specs.Outbox.{Outbox}
use Rattle.rtc_assoc_state.specs.Contents.{Contents}
use Rattle.rtc_assoc_state.specs.Says.{Numbered, SaysPacket, Queues}

-- packets that each say what is true
pub record AllSay (q : Contents) (packets : List (List ℕ)) : Type 0 where
  pub each : (packet : List ℕ) → Member packet packets → SaysPacket q (frame_in packet)

pub queues_same : (p q : Contents) → q.packets ≡ p.packets → Queues p q
queues_same p q e = record { each = λ packet m. inl (subst (λ (l : List (List ℕ)). Member packet l) e m) }

pub queues_more : (p q : Contents) (more : List (List ℕ)) → q.packets ≡ p.packets ++ more → AllSay q more → Queues p q
queues_more p q more e s = record {
  each = λ packet m. elim (member-append packet p.packets more (subst (λ (l : List (List ℕ)). Member packet l) e m)) [ inl h ↦ inl h | inr h ↦ inr (s.each packet h) ];
}

pub all_say_none : (q : Contents) → AllSay q []
all_say_none q = record { each = λ packet m. absurd m }

pub all_say_one : (q : Contents) (packet : List ℕ) → SaysPacket q (frame_in packet) → AllSay q (packet ∷ [])
all_say_one q packet s = record { each = λ other m. elim m [ inl e ↦ subst (λ (x : List ℕ). SaysPacket q (frame_in x)) (sym e) s | inr n ↦ absurd n ] }

pub all_say_both : (q : Contents) (xs ys : List (List ℕ)) → AllSay q xs → AllSay q ys → AllSay q (xs ++ ys)
all_say_both q xs ys a b = record { each = λ packet m. elim (member-append packet xs ys m) [ inl h ↦ a.each packet h | inr h ↦ b.each packet h ] }

-- the packets of items that are kept
pub all_say_items : (q : Contents) (number : ℕ) (before items after : List Item) → q.outbox.items ≡ before ++ (items ++ after) → number ≡ q.outbox.acked + length before + 1 → ReadBack q.inbox.received number items → AllSay q (packets_from q.inbox.received number items)
all_say_items q number before [] after e n r = all_say_none q
all_say_items q number before (item ∷ items) after e n r =
    let first : SaysPacket q (frame_in (data_bytes q.inbox.received number item)) =
    subst (SaysPacket q) (sym r.0) (refl, record { before = before; after = items ++ after; is = e; number_is = n }) in
    let rest : AllSay q (packets_from q.inbox.received (number + 1) items) =
    all_say_items q (number + 1) (before ++ item ∷ []) items after (e ∙ sym (append_assoc before (item ∷ []) (items ++ after))) (omega (arith, n, length-append before (item ∷ []))) r.1 in
    all_say_both q (data_bytes q.inbox.received number item ∷ []) (packets_from q.inbox.received (number + 1) items) (all_say_one q (data_bytes q.inbox.received number item) first) rest

pub says_acknowledgement : (q : Contents) (number : ℕ) → frame_in (acknowledgement_bytes number) ≡ Some (Acknowledgement number) → number ≡ q.inbox.received → SaysPacket q (frame_in (acknowledgement_bytes number))
says_acknowledgement q number r e = subst (SaysPacket q) (sym r) e

pub says_hello : (q : Contents) → SaysPacket q (frame_in (1 ∷ []))
says_hello q = subst (SaysPacket q) (sym hello_reads_back) tt

pub says_welcome : (q : Contents) → SaysPacket q (frame_in (2 ∷ []))
says_welcome q = subst (SaysPacket q) (sym welcome_reads_back) tt

pub says_shutdown : (q : Contents) → SaysPacket q (frame_in (5 ∷ []))
says_shutdown q = subst (SaysPacket q) (sym shutdown_reads_back) tt

pub queues_acknowledgement : (p q : Contents) (number : ℕ) → q.packets ≡ p.packets ++ acknowledgement_bytes number ∷ [] → frame_in (acknowledgement_bytes number) ≡ Some (Acknowledgement number) → number ≡ q.inbox.received → Queues p q
queues_acknowledgement p q number e r n = queues_more p q (acknowledgement_bytes number ∷ []) e (all_say_one q (acknowledgement_bytes number) (says_acknowledgement q number r n))

pub queues_welcome : (p q : Contents) → q.packets ≡ p.packets ++ (2 ∷ []) ∷ [] → Queues p q
queues_welcome p q e = queues_more p q ((2 ∷ []) ∷ []) e (all_say_one q (2 ∷ []) (says_welcome q))

-- the close of a stream, and then an answer
pub queues_close : (p q : Contents) (received number : ℕ) (item : Item) → received ≡ q.inbox.received → q.packets ≡ (p.packets ++ data_bytes received number item ∷ []) ++ acknowledgement_bytes received ∷ []
    → frame_in (data_bytes received number item) ≡ Some (Data received number item) → frame_in (acknowledgement_bytes received) ≡ Some (Acknowledgement received)
    → (before : List Item) → q.outbox.items ≡ before ++ item ∷ [] → number ≡ q.outbox.acked + length before + 1 → Queues p q
queues_close p q received number item h e r a before i n =
    let numbered : Numbered q.outbox.acked q.outbox.items number item = record { before = before; after = []; is = i; number_is = n } in
    let says : SaysPacket q (frame_in (data_bytes received number item)) = subst (SaysPacket q) (sym r) (h, numbered) in
    queues_more p q (data_bytes received number item ∷ acknowledgement_bytes received ∷ [])
    (e ∙ append_assoc p.packets (data_bytes received number item ∷ []) (acknowledgement_bytes received ∷ []))
    (all_say_both q (data_bytes received number item ∷ []) (acknowledgement_bytes received ∷ [])
    (all_say_one q (data_bytes received number item) says)
    (all_say_one q (acknowledgement_bytes received) (says_acknowledgement q received a h)))

-- what is queued stays queued while only the clock changes
pub queues_then : (p m q : Contents) → Queues p m → q.packets ≡ m.packets → q.inbox ≡ m.inbox → q.outbox ≡ m.outbox → Queues p q
queues_then p m q h e i o = record {
  each = λ packet k. elim (h.each packet (subst (λ (l : List (List ℕ)). Member packet l) e k)) [
    | inl n ↦ inl n
    | inr s ↦ inr (says_same (frame_in packet) s)
  ];
}
  where
    says_same : (f : Option Frame) → SaysPacket m f → SaysPacket q f
    says_same None s = tt
    says_same (Some (Data a n item)) s = (s.0 ∙ ap (λ (x : Inbox). x.received) (sym i), subst (λ (x : Outbox). Numbered x.acked x.items n item) (sym o) s.1)
    says_same (Some (Acknowledgement n)) s = s ∙ ap (λ (x : Inbox). x.received) (sym i)
    says_same (Some Hello) s = tt
    says_same (Some Welcome) s = tt
    says_same (Some Shutdown) s = tt

-- where what was queued before was queued at an end with the same packets
pub queues_from : (o p q : Contents) → p.packets ≡ o.packets → Queues p q → Queues o q
queues_from o p q e h = record { each = λ packet k. elim (h.each packet k) [ inl n ↦ inl (subst (λ (l : List (List ℕ)). Member packet l) e n) | inr s ↦ inr s ] }
