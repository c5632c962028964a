-- Two joined ends keep what their streams say of each other over each move.
use Rattle.std.proofs.Common.{◌≡◌, ◌∙◌, ◌⊎◌, inl, inr, ◌≤◌, ℕ, true, true≢false, List, [], ◌∷◌, ◌++◌, drop, take, length, append-nil, append_assoc, Option, Some, None, refl, sym, ap, subst, arith}
use Rattle.std.proofs.lemmas.List.{append_cancel_left, take-append-le}
use Rattle.rtc_parts.specs.Among.{Among, Member}
use Rattle.rtc_parts.specs.AssociationActs.{AssociationAct, Given, Taken, Moved}
use Rattle.rtc_parts.specs.AssociationWords.{ended, given, taken}
use Rattle.rtc_parts.proofs.AmongLemmas.{member-append}
use Rattle.rtc_parts.proofs.AssociationLemmas.{taken-append}
use Rattle.rtc_assoc_state.specs.Packets.{frame_in}
use Rattle.rtc_assoc_state.specs.Says.{SaysPacket}
use Rattle.rtc_assoc.proofs.MessageLemmas.{HasClose}
use Rattle.rtc_assoc.proofs.OrderLemmas.{SenderOk, honest_says}
use Rattle.rtc_run_laws.proofs.SentOrder.{OrderedFrom, Within, close_take, ordered_append, within_at}
use Rattle.rtc_assoc_state.specs.declared.item.Item.{Item}
use Rattle.rtc_assoc_state.specs.declared.frame.Frame.{Frame}
use Rattle.rtc_assoc_state.specs.declared.frame.Frame.TheVariants.{Hello, Welcome, Data, Acknowledgement, Shutdown}
use Rattle.rtc_assoc_state.specs.declared.close_state.CloseState.TheVariants.{Unclosed, Queued, Acknowledged}
use Rattle.rtc_assoc_state.specs.Contents.{Contents, fresh_contents}
use Rattle.rtc_assoc_state.specs.PlainMeaning.{plain_meaning}
use Rattle.rtc_assoc_state.specs.Streams.{LAST_GENERATION, stream_of}
use Rattle.rtc_assoc.specs.Joined.{Ends, fresh_ends, Move, LeftMoves, RightMoves, Goes, Run}
use Rattle.rtc_assoc.proofs.FrameLemmas.{Brings}
use Rattle.rtc_assoc.proofs.CoreLemmas.{Causes, Step}
use Rattle.rtc_assoc.proofs.StepLemmas.{step_of}
use Rattle.rtc_assoc.proofs.DirectedLemmas.{Directed, brings_of, next_of, receiver_moves, sender_moves}
use Rattle.rtc_assoc.proofs.RunLemmas.{both_run}
use Rattle.rtc_sctp_laws.proofs.BackedRows.{plain_sound}
use Rattle.rtc_run_laws.proofs.SoundActs.{act_sound}
use Rattle.rtc_run_laws.proofs.ClosingRows.{Keeps}
use Rattle.rtc_run_laws.proofs.ClosingEnds.{act_frame, act_go}
use Rattle.rtc_run_laws.proofs.ClosingSteps.{EndGo}
use Rattle.rtc_run_laws.proofs.ClosingLevels.{Level, Timely, level_swap}
use Rattle.rtc_run_laws.proofs.TimelyItems.{level_in_time}

timely_grew : (back more : List Item) (f : Option Frame) → Timely back f → Timely (back ++ more) f
timely_grew back more None h = tt
timely_grew back more (Some Hello) h = tt
timely_grew back more (Some Welcome) h = tt
timely_grew back more (Some (Data n number item)) h = λ g less. close_take item.stream g n back more (h g less)
timely_grew back more (Some (Acknowledgement n)) h = tt
timely_grew back more (Some Shutdown) h = tt

says_timely : (c : Contents) (f : Option Frame) (back w : List Item) {received : ℕ} → SenderOk w received c.outbox → Keeps c.streams c.outbox.items w (take c.inbox.received back) → SaysPacket c f → Timely back f
says_timely c None back w sender keeps says = tt
says_timely c (Some Hello) back w sender keeps says = tt
says_timely c (Some Welcome) back w sender keeps says = tt
says_timely c (Some (Data n number item)) back w {received} sender keeps says =
    let at = honest_says w received c (Some (Data n number item)) sender says in
    let row = keeps item.stream in
    let low : item.generation ≤ (stream_of item.stream c.streams).generation =
    within_at item.stream (stream_of item.stream c.streams).generation at.before item at.after (subst (λ (l : List Item). Within item.stream (stream_of item.stream c.streams).generation l) at.is row.within) refl in
    λ g less. subst (λ (m : ℕ). HasClose item.stream g (take m back)) (sym says.0) (row.heard g (omega (arith, less, low)))
says_timely c (Some (Acknowledgement n)) back w sender keeps says = tt
says_timely c (Some Shutdown) back w sender keeps says = tt

-- a packet that is queued or was transmitted after an act was so before, or is made now
taken_was : (packet : List ℕ) (act : AssociationAct) (p : Contents) (count : ℕ) (got : List Item) → Causes p act count got → Member packet (taken (act ∷ [])) → Member packet p.packets
taken_was packet (Taken b) p count got t (inl e) = subst (λ (x : List ℕ). Member x p.packets) (sym e) t.2
taken_was packet (Taken b) p count got t (inr h) = absurd h
taken_was packet (_) p count got t m = absurd m

packet_was : (packet : List ℕ) (act : AssociationAct) (p q : Contents) (v : List AssociationAct) → Step p act q → Member packet q.packets ⊎ Member packet (taken (v ++ act ∷ []))
    → (Member packet p.packets ⊎ Member packet (taken v)) ⊎ SaysPacket q (frame_in packet)
packet_was packet act p q v s (inl m) = elim (s.queues.each packet m) [ inl h ↦ inl (inl h) | inr h ↦ inr h ]
packet_was packet act p q v s (inr m) =
    elim (member-append packet (taken v) (taken (act ∷ [])) (subst (λ (l : List (List ℕ)). Member packet l) (taken-append v (act ∷ [])) m)) [
      | inl h ↦ inl (inr h)
      | inr h ↦ inl (inl (taken_was packet act p s.core.count s.core.got s.core.causes h))
    ]

-- what came by an act, by its packet and its count
pub no_length : (x : Item) (xs : List Item) → length (x ∷ xs) ≡ 0 → ⊥
no_length x xs h = omega (arith, h)

same_got : (f : Option Frame) (r : ℕ) (xs ys : List Item) → Brings r xs f → Brings r ys f → length xs ≡ length ys → xs ≡ ys
same_got f r [] [] h k e = refl
same_got f r [] (y ∷ ys) h k e = absurd (no_length y ys (sym e))
same_got f r (x ∷ xs) [] h k e = absurd (no_length x xs e)
same_got None r (x ∷ xs) (y ∷ ys) h k e = absurd h
same_got (Some Hello) r (x ∷ xs) (y ∷ ys) h k e = absurd h
same_got (Some Welcome) r (x ∷ xs) (y ∷ ys) h k e = absurd h
same_got (Some (Data n number item)) r (x ∷ xs) (y ∷ ys) h k e =
    ap (λ (i : Item). i ∷ xs) (h.0 ∙ sym k.0) ∙ ap (λ (l : List Item). y ∷ l) (h.2 ∙ sym k.2)
same_got (Some (Acknowledgement n)) r (x ∷ xs) (y ∷ ys) h k e = absurd h
same_got (Some Shutdown) r (x ∷ xs) (y ∷ ys) h k e = absurd h

brings_nil : (r : ℕ) (got : List Item) → got ≡ [] → Brings r got None
brings_nil r got e = subst (λ (l : List Item). Brings r l None) (sym e) tt

brings_by : (act : AssociationAct) (p : Contents) (count : ℕ) (got : List Item) → Causes p act count got → Brings p.inbox.received got (act_frame act)
brings_by (Given b) p count got h = h.1
brings_by (Taken b) p count got h = brings_nil p.inbox.received got h.1
brings_by (_) p count got h = brings_nil p.inbox.received got h.1

-- one end acts
swapped : (v u : List AssociationAct) (t g : ℕ) → (ended t g u ≡ true) ⊎ (ended t g v ≡ true) → (ended t g v ≡ true) ⊎ (ended t g u ≡ true)
swapped v u t g (inl e) = inr e
swapped v u t g (inr e) = inl e

level_step : (a c b : Contents) (act : AssociationAct) (v u : List AssociationAct) → EndGo (act_frame act) a c → (plain_sound a → plain_sound c) → Step a act c
    → Among (given (act ∷ [])) (taken u) → Level a b v u → Level c b (v ++ act ∷ []) u
level_step a c b act v u k sound s m h = record {
  there = h.there ++ s.core.more;
  back = h.back;
  forth_is =
      sender_moves h.there a c b act v u s m (λ t g x. swapped v u t g (brings_of h.back b a c act u v s m h.back_is t g x)) h.forth_is;
  back_is = receiver_moves h.back b a c act u v s m h.back_is;
  left = left_now;
  right =
      subst (λ (l : List Item). Keeps b.streams b.outbox.items h.back l)
      (sym (take-append-le b.inbox.received h.there s.core.more h.forth_is.receiver.within)) h.right;
  left_sound = sound h.left_sound;
  right_sound = h.right_sound;
  there_order = ordered_append [] h.there s.core.more h.there_order (subst (λ (l : List Item). OrderedFrom h.there l) more_is (k.fits h.there (take a.inbox.received h.back) h.left));
  back_order = h.back_order;
  there_timely = λ packet q. elim (packet_was packet act a c v s q) [
    | inl j ↦ h.there_timely packet j
    | inr j ↦ says_timely c (frame_in packet) h.back (h.there ++ s.core.more) sender left_now j
  ];
  back_timely = λ packet q. timely_grew h.there s.core.more (frame_in packet) (h.back_timely packet q);
}
  where
    count_is : k.count ≡ s.core.count
    count_is = let x = k.acked in let y = s.core.acked in omega (arith, x, y)

    more_is : k.more ≡ s.core.more
    more_is =
        append_cancel_left (drop s.core.count a.outbox.items) k.more s.core.more
        (ap (λ (n : ℕ). drop n a.outbox.items ++ k.more) (sym count_is) ∙ sym k.items ∙ s.core.items)

    got_is : k.got ≡ s.core.got
    got_is =
        same_got (act_frame act) a.inbox.received k.got s.core.got k.brings (brings_by act a s.core.count s.core.got s.core.causes)
        (let x = k.received in let y = s.core.gets.count in omega (arith, x, y))

    came : take c.inbox.received h.back ≡ take a.inbox.received h.back ++ k.got
    came =
        ap (λ (n : ℕ). take n h.back) s.core.gets.count ∙ (next_of h.back b a c act u v s m h.back_is).is
        ∙ ap (λ (l : List Item). take a.inbox.received h.back ++ l) (sym got_is)

    left_now : Keeps c.streams c.outbox.items (h.there ++ s.core.more) (take c.inbox.received h.back)
    left_now =
        subst (λ (l : List Item). Keeps c.streams c.outbox.items (h.there ++ l) (take c.inbox.received h.back)) more_is
        (subst (λ (l : List Item). Keeps c.streams c.outbox.items (h.there ++ k.more) l) (sym came) (k.keeps h.there (take a.inbox.received h.back) h.left))

    sender : SenderOk (h.there ++ s.core.more) b.inbox.received c.outbox
    sender =
        Directed.sender (sender_moves h.there a c b act v u s m (λ t g x. swapped v u t g (brings_of h.back b a c act u v s m h.back_is t g x)) h.forth_is)

pub among_first : (act : AssociationAct) (acts : List AssociationAct) (packets : List (List ℕ)) → Among (given (act ∷ acts)) packets
    → Among (given (act ∷ [])) packets
among_first (Given b) acts packets m = record { each = λ x k. elim k [ inl e ↦ m.each x (inl e) | inr n ↦ absurd n ] }
among_first (_) acts packets m = record { each = λ x k. absurd k }

pub among_rest : (act : AssociationAct) (acts : List AssociationAct) (packets : List (List ℕ)) → Among (given (act ∷ acts)) packets
    → Among (given acts) packets
among_rest (Given b) acts packets m = record { each = λ x k. m.each x (inr k) }
among_rest (_) acts packets m = m

level_acts : (a c b : Contents) (acts v u : List AssociationAct) → Moved plain_meaning a acts c → Among (given acts) (taken u) → Level a b v u
    → Level c b (v ++ acts) u
level_acts a c b [] v u h m k =
    subst (λ (x : Contents). Level x b (v ++ []) u) (sym h) (subst (λ (l : List AssociationAct). Level a b l u) (sym (append-nil v)) k)
level_acts a c b (act ∷ acts) v u h m k =
    let first : Level h.0 b (v ++ act ∷ []) u =
    level_step a h.0 b act v u (act_go a h.0 act h.1.0 (level_in_time a b v u act k (among_first act acts (taken u) m))) (act_sound a h.0 act h.1.0 (level_in_time a b v u act k (among_first act acts (taken u) m))) (step_of a h.0 act h.1.0) (among_first act acts (taken u) m) k in
    subst (λ (l : List AssociationAct). Level c b l u) (append_assoc v (act ∷ []) acts)
    (level_acts h.0 c b acts (v ++ act ∷ []) u h.1.1 (among_rest act acts (taken u) m) first)

level_goes : (d e : Ends) (move : Move) → Goes d move e → Level d.left d.right d.left_acts d.right_acts → Level e.left e.right e.left_acts e.right_acts
level_goes d e (LeftMoves acts) g h =
    let P : Ends → Type 0 = λ x. Level x.left x.right x.left_acts x.right_acts in
    subst P (sym g.2) (level_acts d.left e.left d.right acts d.left_acts d.right_acts g.0 g.1 h)
level_goes d e (RightMoves acts) g h =
    let P : Ends → Type 0 = λ x. Level x.left x.right x.left_acts x.right_acts in
    subst P (sym g.2)
    (level_swap e.right d.left (d.right_acts ++ acts) d.left_acts
    (level_acts d.right e.right d.left acts d.right_acts d.left_acts g.0 g.1 (level_swap d.left d.right d.left_acts d.right_acts h)))

no_open : Unclosed ≡ Queued → ⊥
no_open h = cc

no_open_rest : Unclosed ≡ Acknowledged → ⊥
no_open_rest h = cc

least : (n : ℕ) → 0 ≤ n
least n = omega arith

keeps_fresh : Keeps [] [] [] []
keeps_fresh = λ s. record {
  below = λ g less. absurd (omega (arith, less));
  own = λ e. absurd (true≢false (sym e));
  known = λ g c. absurd c;
  queued = λ e. absurd (no_open e);
  rests = λ e f. absurd (no_open_rest e);
  follows = λ e. absurd (true≢false (sym e));
  bounded = least LAST_GENERATION;
  mine = λ g c. absurd c;
  heard = λ g less. absurd (omega (arith, less));
  ended = λ e. absurd (true≢false (sym e));
  within = tt;
}

pub empty : (xs : List Item) → 0 ≡ length xs → xs ≡ []
empty [] h = refl
empty (x ∷ xs) h = absurd (omega (arith, h))

level_fresh : Level fresh_contents fresh_contents [] []
level_fresh =
    let h = both_run [] fresh_ends refl in
    record {
      there = [];
      back = [];
      forth_is = subst (λ (w : List Item). Directed w fresh_contents fresh_contents [] []) (empty h.there (SenderOk.count (Directed.sender h.forth_is))) h.forth_is;
      back_is = subst (λ (w : List Item). Directed w fresh_contents fresh_contents [] []) (empty h.back (SenderOk.count (Directed.sender h.back_is))) h.back_is;
      left = keeps_fresh;
      right = keeps_fresh;
      left_sound = refl;
      right_sound = refl;
      there_order = tt;
      back_order = tt;
      there_timely = λ packet m. none m;
      back_timely = λ packet m. none m;
    }
  where
    none : {A : Type 0} → ⊥ ⊎ ⊥ → A
    none (inl h) = absurd h
    none (inr h) = absurd h

pub level_run : (moves : List Move) (e : Ends) → Run moves e → Level e.left e.right e.left_acts e.right_acts
level_run [] e r = let P : Ends → Type 0 = λ x. Level x.left x.right x.left_acts x.right_acts in subst P (sym r) level_fresh
level_run (move ∷ moves) e r = level_goes r.0 e move r.1.1 (level_run moves r.0 r.1.0)
