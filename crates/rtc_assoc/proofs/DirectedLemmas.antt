-- What one end sent and the other one took, and that each act of either keeps it.
use Rattle.std.proofs.Common.{ℕ, zero, suc, ◌≡◌, ◌+◌, ◌-◌, ◌≤◌, ◌==◌, ◌||◌, ◌⊎◌, inl, inr, Bool, true, false, List, [], ◌∷◌, ◌++◌, length, take, drop, refl, sym, ap, subst, ◌∙◌, arith, append-nil}
use Rattle.std.proofs.lemmas.List.{take-append-drop}
use Rattle.std.proofs.Math.Seq.{drop-drop}
use Rattle.std.proofs.lemmas.Bool.Decides.{eqb_tells}
use Rattle.rtc_assoc_state.specs.Outbox.{has_unacknowledged}
use Rattle.std.proofs.lemmas.Bool.{cases_Bool}
use Rattle.rtc_parts.specs.Among.{Member, Among}
use Rattle.rtc_parts.specs.AssociationActs.{AssociationAct, Given, Taken}
use Rattle.rtc_parts.specs.AssociationWords.{AssociationMessage, given, taken, written, read, ended}
use Rattle.rtc_parts.proofs.AmongLemmas.{member-append}
use Rattle.rtc_parts.proofs.AssociationLemmas.{taken-append, written-append, read-append, ended-append}
use Rattle.rtc_assoc_state.specs.declared.item.Item.{Item}
use Rattle.rtc_assoc_state.specs.Packets.{frame_in}
use Rattle.rtc_assoc_state.specs.Contents.{Contents}
use Rattle.rtc_assoc_state.specs.Says.{SaysPacket}
use Rattle.rtc_assoc.specs.Unread.{unread, IsPrefix}
use Rattle.rtc_assoc.proofs.MessageLemmas.{messages, left, messages-append, left-append, HasClose, close-append}
use Rattle.rtc_assoc.proofs.UnreadLemmas.{prefix_more, prefix_front}
use Rattle.rtc_assoc.proofs.AliveLemmas.{alive}
use Rattle.rtc_assoc.proofs.CoreLemmas.{Causes, Step}
use Rattle.rtc_assoc.proofs.OrderLemmas.{SenderOk, ReceiverOk, Honest, Modest, acked_behind, sender_step, sender_later, receiver_grew, Next, next_none, brought, close_next, receiver_step, honest_grew, honest_says, modest_later, modest_says}

-- one of two ends closed a generation
abbrev pub EitherEnded : ℕ → ℕ → (v u : List AssociationAct) → Type 0
EitherEnded s g v u = (ended s g v ≡ true) ⊎ (ended s g u ≡ true)

either_swap : (s g : ℕ) (v u : List AssociationAct) → EitherEnded s g v u → EitherEnded s g u v
either_swap s g v u (inl e) = inr e
either_swap s g v u (inr e) = inl e

or_left : (a b : Bool) → a ≡ true → (a || b) ≡ true
or_left true b e = refl
or_left false b e = absurd cc

or_right : (a b : Bool) → b ≡ true → (a || b) ≡ true
or_right true b e = refl
or_right false b e = e

ended_more : (s g : ℕ) (xs ys : List AssociationAct) → ended s g xs ≡ true → ended s g (xs ++ ys) ≡ true
ended_more s g xs ys e = ended-append s g xs ys ∙ or_left (ended s g xs) (ended s g ys) e

ended_last : (s g : ℕ) (xs ys : List AssociationAct) → ended s g ys ≡ true → ended s g (xs ++ ys) ≡ true
ended_last s g xs ys e = ended-append s g xs ys ∙ or_right (ended s g xs) (ended s g ys) e

either_more : (s g : ℕ) (v u more : List AssociationAct) → EitherEnded s g v u → EitherEnded s g (v ++ more) u
either_more s g v u more (inl e) = inl (ended_more s g v more e)
either_more s g v u more (inr e) = inr e

either_later : (s g : ℕ) (v u more : List AssociationAct) → EitherEnded s g v u → EitherEnded s g v (u ++ more)
either_later s g v u more (inl e) = inl e
either_later s g v u more (inr e) = inr (ended_more s g u more e)

-- from a to b, where a did v and b did u since they were fresh, and a sent the items w in all
pub record Directed (w : List Item) (a b : Contents) (v u : List AssociationAct) : Type 0 where
  pub wrote : (s g : ℕ) → messages s g [] w ≡ written s g v
  pub whole : (s g : ℕ) → left s g [] w ≡ []
  pub sender : SenderOk w b.inbox.received a.outbox
  pub receiver : ReceiverOk w (λ s g. read s g u) b.inbox b.streams
  pub sent : (packet : List ℕ) → Member packet a.packets ⊎ Member packet (taken v) → Honest w (frame_in packet)
  pub acks : (packet : List ℕ) → Member packet b.packets ⊎ Member packet (taken u) → Modest b.inbox.received (frame_in packet)
  pub closes : (s g : ℕ) → HasClose s g w → EitherEnded s g v u
  pub dead : (s g : ℕ) → alive b.streams s g ≡ false → EitherEnded s g v u

-- a packet that is queued or was transmitted after an act was so before, or is made now
taken_was : (packet : List ℕ) (act : AssociationAct) (p : Contents) (count : ℕ) (got : List Item) → Causes p act count got → Member packet (taken (act ∷ [])) → Member packet p.packets
taken_was packet (Taken b) p count got t (inl e) = subst (λ (x : List ℕ). Member x p.packets) (sym e) t.2
taken_was packet (Taken b) p count got t (inr h) = absurd h
taken_was packet (_) p count got t m = absurd m

packet_step : (packet : List ℕ) (act : AssociationAct) (p q : Contents) (v : List AssociationAct) → Step p act q → Member packet q.packets ⊎ Member packet (taken (v ++ act ∷ [])) → (Member packet p.packets ⊎ Member packet (taken v)) ⊎ SaysPacket q (frame_in packet)
packet_step packet act p q v s (inl m) = elim (s.queues.each packet m) [ inl h ↦ inl (inl h) | inr h ↦ inr h ]
packet_step packet act p q v s (inr m) =
    elim (member-append packet (taken v) (taken (act ∷ [])) (subst (λ (l : List (List ℕ)). Member packet l) (taken-append v (act ∷ [])) m)) [
      | inl h ↦ inl (inr h)
      | inr h ↦ inl (inl (taken_was packet act p s.core.count s.core.got s.core.causes h))
    ]

-- what an act acknowledges is behind what the other end got, and what it brings is next
behind_step : (act : AssociationAct) (packets : List (List ℕ)) (received count : ℕ) (got : List Item) (p : Contents) → ((packet : List ℕ) → Member packet packets → Modest received (frame_in packet)) → Among (given (act ∷ [])) packets → Causes p act count got → p.outbox.acked ≤ received → p.outbox.acked + count ≤ received
behind_step (Given b) packets received count got p h m c l = acked_behind p.outbox.acked count received (frame_in b) c.0 (h b (m.each b (inl refl))) l
behind_step (_) packets received count got p h m c l = omega (arith, c.0, l)

next_step : (act : AssociationAct) (packets : List (List ℕ)) (w : List Item) (count : ℕ) (got : List Item) (p : Contents) → ((packet : List ℕ) → Member packet packets → Honest w (frame_in packet)) → Among (given (act ∷ [])) packets → Causes p act count got → p.inbox.received ≤ length w → Next w p.inbox.received got
next_step (Given b) packets w count got p h m c l = brought w p.inbox.received got (frame_in b) c.1 (h b (m.each b (inl refl))) l
next_step (_) packets w count got p h m c l = subst (λ (x : List Item). Next w p.inbox.received x) (sym c.1) (next_none w p.inbox.received l)

-- the sender acts
pub sender_moves : (w : List Item) (a c b : Contents) (act : AssociationAct) (v u : List AssociationAct) (s : Step a act c) → Among (given (act ∷ [])) (taken u) → ((t g : ℕ) → HasClose t g s.core.got → EitherEnded t g v u) → Directed w a b v u → Directed (w ++ s.core.more) c b (v ++ act ∷ []) u
sender_moves w a c b act v u s m brings h =
    let k = s.core in
    let new : SenderOk (w ++ k.more) b.inbox.received c.outbox =
    sender_step w b.inbox.received k.count k.more a.outbox c.outbox k.within k.acked k.items
    (behind_step act (taken u) b.inbox.received k.count k.got a (λ packet q. h.acks packet (inr q)) m k.causes h.sender.behind) h.sender in
    record {
      wrote = λ t g. messages-append t g [] w k.more ∙ ap (λ f. messages t g [] w ++ messages t g f k.more) (h.whole t g)
          ∙ ap (λ l. l ++ messages t g [] k.more) (h.wrote t g) ∙ ap (λ l. written t g v ++ l) (k.wrote t g) ∙ sym (written-append t g v (act ∷ []));
      whole = λ t g. left-append t g [] w k.more ∙ ap (λ f. left t g f k.more) (h.whole t g) ∙ k.whole t g;
      sender = new;
      receiver = receiver_grew w (λ t g. read t g u) b.inbox b.streams k.more h.receiver;
      sent = λ packet q. elim (packet_step packet act a c v s q) [
        | inl j ↦ honest_grew w k.more (frame_in packet) (h.sent packet j)
        | inr j ↦ honest_says (w ++ k.more) b.inbox.received c (frame_in packet) new j
      ];
      acks = h.acks;
      closes = λ t g j. elim (close-append t g w k.more j) [
        | inl i ↦ either_more t g v u (act ∷ []) (h.closes t g i)
        | inr i ↦ elim (k.closes t g i) [
          | inl e ↦ inl (ended_last t g v (act ∷ []) e)
          | inr e ↦ either_more t g v u (act ∷ []) (brings t g e)
        ]
      ];
      dead = λ t g d. either_more t g v u (act ∷ []) (h.dead t g d);
    }

pub next_of : (w : List Item) (a b d : Contents) (act : AssociationAct) (v u : List AssociationAct) (s : Step b act d) → Among (given (act ∷ [])) (taken v) → Directed w a b v u → Next w b.inbox.received s.core.got
next_of w a b d act v u s m h = next_step act (taken v) w s.core.count s.core.got b (λ packet q. h.sent packet (inr q)) m s.core.causes h.receiver.within

pub brings_of : (w : List Item) (a b d : Contents) (act : AssociationAct) (v u : List AssociationAct) (s : Step b act d) → Among (given (act ∷ [])) (taken v) → Directed w a b v u → (t g : ℕ) → HasClose t g s.core.got → EitherEnded t g v u
brings_of w a b d act v u s m h t g c = h.closes t g (close_next w b.inbox.received s.core.got t g (next_of w a b d act v u s m h) c)

-- the receiver acts
pub receiver_moves : (w : List Item) (a b d : Contents) (act : AssociationAct) (v u : List AssociationAct) (s : Step b act d) → Among (given (act ∷ [])) (taken v) → Directed w a b v u → Directed w a d v (u ++ act ∷ [])
receiver_moves w a b d act v u s m h =
    let k = s.core in
    let grows : b.inbox.received ≤ d.inbox.received = omega (arith, k.gets.count) in
    let both : ReceiverOk w (λ t g. read t g u ++ read t g (act ∷ [])) d.inbox d.streams =
    receiver_step w (λ t g. read t g u) (λ t g. read t g (act ∷ [])) b.inbox d.inbox b.streams d.streams k.got k.gets (next_of w a b d act v u s m h) h.receiver in
    record {
      wrote = h.wrote;
      whole = h.whole;
      sender = sender_later w b.inbox.received d.inbox.received a.outbox grows h.sender;
      receiver = record {
        within = both.within;
        begins = λ t g. subst (λ (l : List AssociationMessage). IsPrefix (l ++ unread t g d.inbox.unread) (messages t g [] (take d.inbox.received w))) (sym (read-append t g u (act ∷ []))) (both.begins t g);
        exact = λ t g l. ap (λ l. l ++ unread t g d.inbox.unread) (read-append t g u (act ∷ [])) ∙ both.exact t g l;
        front_is = both.front_is;
      };
      sent = h.sent;
      acks = λ packet q. elim (packet_step packet act b d u s q) [
        | inl j ↦ modest_later b.inbox.received d.inbox.received (frame_in packet) grows (h.acks packet j)
        | inr j ↦ modest_says d (frame_in packet) j
      ];
      closes = λ t g j. either_later t g v u (act ∷ []) (h.closes t g j);
      dead = λ t g e. elim (k.dies t g e) [
        | inl j ↦ either_later t g v u (act ∷ []) (h.dead t g j)
        | inr j ↦ elim j [
          | inl i ↦ inr (ended_last t g u (act ∷ []) i)
          | inr i ↦ either_later t g v u (act ∷ []) (brings_of w a b d act v u s m h t g i)
        ]
      ];
    }

-- what is read is a prefix of what was written
pub directed_prefix : (w : List Item) (a b : Contents) (v u : List AssociationAct) (s g : ℕ) → Directed w a b v u → IsPrefix (read s g u) (written s g v)
directed_prefix w a b v u s g h =
    let n = b.inbox.received in
    let front : IsPrefix (read s g u) (messages s g [] (take n w)) = prefix_front (read s g u) (unread s g b.inbox.unread) (messages s g [] (take n w)) (h.receiver.begins s g) in
    let rest = messages s g (left s g [] (take n w)) (drop n w) in
    let all : messages s g [] (take n w) ++ rest ≡ written s g v = sym (messages-append s g [] (take n w) (drop n w)) ∙ ap (messages s g []) (take-append-drop n w) ∙ h.wrote s g in
    subst (λ (l : List AssociationMessage). IsPrefix (read s g u) l) all (prefix_more (read s g u) (messages s g [] (take n w)) rest front)

-- items of other streams carry no message
pub messages-none : (s g : ℕ) (front : List ℕ) (items : List Item) → has_unacknowledged s items ≡ false → messages s g front items ≡ []
messages-none s g front [] e = refl
messages-none s g front (item ∷ items) e =
    elim (eqb_tells item.stream s) [
      | inl h ↦ absurd (let k : true ≡ false = rw h.0 at e in cc)
      | inr h ↦ rw h.0 (messages-none s g front items (rw h.0 at e))
    ]

none_dropped : (s n : ℕ) (items : List Item) → has_unacknowledged s items ≡ false → has_unacknowledged s (drop n items) ≡ false
none_dropped s zero items e = e
none_dropped s (suc n) [] e = refl
none_dropped s (suc n) (item ∷ items) e = none_dropped s n items (rest (item.stream == s) (has_unacknowledged s items) e)
  where
    rest : (a b : Bool) → (a || b) ≡ false → b ≡ false
    rest true b k = absurd cc
    rest false b k = k

-- where messages of the generation are taken and nothing of the stream is unacknowledged, what is read and unread is
-- all that was written
pub directed_open : (w : List Item) (a b : Contents) (v u : List AssociationAct) (s g : ℕ) → Directed w a b v u → alive b.streams s g ≡ true → has_unacknowledged s a.outbox.items ≡ false → read s g u ++ unread s g b.inbox.unread ≡ written s g v
directed_open w a b v u s g h l e =
    let n = b.inbox.received in
    let k = n - a.outbox.acked in
    let behind : drop n w ≡ drop k a.outbox.items = ap (λ m. drop m w) (omega (arith, h.sender.behind)) ∙ sym (drop-drop k a.outbox.acked w) ∙ ap (drop k) (sym h.sender.rest) in
    let none : has_unacknowledged s (drop n w) ≡ false = ap (has_unacknowledged s) behind ∙ none_dropped s k a.outbox.items e in
    let all : messages s g [] w ≡ messages s g [] (take n w) =
    ap (messages s g []) (sym (take-append-drop n w)) ∙ messages-append s g [] (take n w) (drop n w)
    ∙ ap (λ l. messages s g [] (take n w) ++ l) (messages-none s g (left s g [] (take n w)) (drop n w) none)
    ∙ append-nil (messages s g [] (take n w)) in
    h.receiver.exact s g l ∙ sym all ∙ h.wrote s g

-- they are where neither closed the generation
pub directed_all : (w : List Item) (a b : Contents) (v u : List AssociationAct) (s g : ℕ) → Directed w a b v u → ended s g v ≡ false → ended s g u ≡ false → has_unacknowledged s a.outbox.items ≡ false → read s g u ++ unread s g b.inbox.unread ≡ written s g v
directed_all w a b v u s g h x y e = directed_open w a b v u s g h (elim (cases_Bool (alive b.streams s g)) [ inl l ↦ l | inr l ↦ absurd (none (h.dead s g l)) ]) e
  where
    none : EitherEnded s g v u → ⊥
    none (inl k) = let j : false ≡ true = sym x ∙ k in cc
    none (inr k) = let j : false ≡ true = sym y ∙ k in cc
