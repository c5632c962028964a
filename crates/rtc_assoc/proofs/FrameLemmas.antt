-- What a packet does to an end.
use Rattle.std.proofs.Common.{ℕ, ◌≡◌, ◌+◌, ◌≤◌, ◌==◌, ◌&&◌, ◌⊎◌, not, max, inl, inr, Bool, true, false, cond, List, [], ◌∷◌, ◌++◌, length, drop, Option, Some, None, refl, sym, ap, subst, ◌∙◌, arith, append-nil}
use Rattle.std.proofs.lemmas.Bool.Decides.{eqb_tells}
use Rattle.rtc_parts.specs.declared.assoc_event.AssocEvent.TheVariants.{Connected}
use Rattle.rtc_assoc_state.specs.declared.item.Item.{Item}
use Rattle.rtc_assoc_state.specs.declared.frame.Frame.{Frame}
use Rattle.rtc_assoc_state.specs.declared.frame.Frame.TheVariants.{Hello, Welcome, Data, Acknowledgement, Shutdown}
use Rattle.rtc_assoc_state.specs.declared.stream_row.StreamRow.{StreamRow}
use Rattle.rtc_assoc_state.specs.Inbox.{Inbox}
use Rattle.rtc_assoc_state.specs.Outbox.{Outbox, settled_count}
use Rattle.rtc_assoc_state.specs.Settling.{told_of}
use Rattle.rtc_assoc_state.specs.Contents.{Contents, is_ending, is_server}
use Rattle.rtc_assoc_state.specs.Calls.{greeted, welcomed, acknowledged, answered, lost, item_taken, item_came, framed, half_taken, at_moment}
use Rattle.rtc_assoc_end.proofs.SendsLemmas.{packets-greeted, packets-acknowledged}
use Rattle.rtc_assoc.proofs.MessageLemmas.{messages, left, HasClose}
use Rattle.rtc_assoc.proofs.AliveLemmas.{alive, alive-settled}
use Rattle.rtc_assoc.proofs.ArriveLemmas.{Gets, no_reads, gets_from, gets_none, Came, arrives_none, came_taken}

-- how many items a packet acknowledges at most, and which one it brings
abbrev pub Acknowledges : (acked count : ℕ) → Option Frame → Type 0
Acknowledges acked count None = count ≡ 0
Acknowledges acked count (Some Hello) = count ≡ 0
Acknowledges acked count (Some Welcome) = count ≡ 0
Acknowledges acked count (Some (Data n number item)) = acked + count ≤ max acked n
Acknowledges acked count (Some (Acknowledgement n)) = acked + count ≤ max acked n
Acknowledges acked count (Some Shutdown) = count ≡ 0

abbrev pub Brings : (received : ℕ) → List Item → Option Frame → Type 0
Brings received [] f = Unit {0}
Brings received (item ∷ items) None = ⊥
Brings received (item ∷ items) (Some Hello) = ⊥
Brings received (item ∷ items) (Some Welcome) = ⊥
Brings received (item ∷ items) (Some (Data n number other)) = (item ≡ other) × (number ≡ received + 1) × (items ≡ [])
Brings received (item ∷ items) (Some (Acknowledgement n)) = ⊥
Brings received (item ∷ items) (Some Shutdown) = ⊥

-- what a packet does
pub record FrameCore (p : Contents) (f : Option Frame) (q : Contents) : Type 0 where
  pub count : ℕ
  pub more : List Item
  pub got : List Item
  pub acknowledges : Acknowledges p.outbox.acked count f
  pub brings : Brings p.inbox.received got f
  pub within : count ≤ length p.outbox.items
  pub acked : q.outbox.acked ≡ p.outbox.acked + count
  pub items : q.outbox.items ≡ drop count p.outbox.items ++ more
  pub silent : (s g : ℕ) → messages s g [] more ≡ []
  pub whole : (s g : ℕ) → left s g [] more ≡ []
  pub gets : Gets p.inbox p.streams got no_reads q.inbox q.streams
  pub closes : (s g : ℕ) → HasClose s g more → HasClose s g got
  pub dies : (s g : ℕ) → alive q.streams s g ≡ false → (alive p.streams s g ≡ false) ⊎ HasClose s g got

pub acknowledges_none : (acked : ℕ) (f : Option Frame) → Acknowledges acked 0 f
acknowledges_none acked None = refl
acknowledges_none acked (Some Hello) = refl
acknowledges_none acked (Some Welcome) = refl
acknowledges_none acked (Some (Data n number item)) = omega arith
acknowledges_none acked (Some (Acknowledgement n)) = omega arith
acknowledges_none acked (Some Shutdown) = refl

pub frame_quiet : (p q : Contents) (f : Option Frame) → q.outbox ≡ p.outbox → q.inbox ≡ p.inbox → q.streams ≡ p.streams → FrameCore p f q
frame_quiet p q f o b x =
    let P : Inbox → Type 0 = λ v. Gets p.inbox p.streams [] no_reads v q.streams in
    let same : (s g : ℕ) → alive q.streams s g ≡ alive p.streams s g = λ s g. ap (λ (v : List StreamRow). alive v s g) x in
    record {
      count = 0;
      more = [];
      got = [];
      acknowledges = acknowledges_none p.outbox.acked f;
      brings = tt;
      within = omega arith;
      acked = omega (arith, ap (λ (v : Outbox). v.acked) o);
      items = ap (λ (v : Outbox). v.items) o ∙ sym (append-nil p.outbox.items);
      silent = λ s g. refl;
      whole = λ s g. refl;
      gets = subst P (sym b) (gets_none p.inbox p.streams q.streams same);
      closes = λ s g c. absurd c;
      dies = λ s g d. inl (sym (same s g) ∙ d);
    }

pub frame_welcomed : (now : ℕ) (p : Contents) → FrameCore p (Some Hello) (at_moment now (welcomed p))
unfolding at_moment welcomed
frame_welcomed now p = by_role (is_server p.standing.role)
  where
    by_role : (b : Bool) → FrameCore p (Some Hello) (at_moment now (cond b (record p { standing = record p.standing { connected = true }; events = p.events ++ (cond p.standing.connected [] (Connected ∷ [])); packets = p.packets ++ (2 ∷ []) ∷ [] }) p))
    by_role true = frame_quiet p _ (Some Hello) refl refl refl
    by_role false = frame_quiet p _ (Some Hello) refl refl refl

pub frame_greeted : (now : ℕ) (p : Contents) → FrameCore p (Some Welcome) (at_moment now (greeted p))
unfolding at_moment greeted
frame_greeted now p = frame_quiet p (at_moment now (greeted p)) (Some Welcome) refl refl refl

pub frame_lost : (now : ℕ) (p : Contents) → FrameCore p (Some Shutdown) (at_moment now (lost p))
unfolding at_moment lost
frame_lost now p = frame_quiet p (at_moment now (lost p)) (Some Shutdown) refl refl refl

pub frame_nothing : (now : ℕ) (p : Contents) → FrameCore p None (at_moment now p)
unfolding at_moment
frame_nothing now p = frame_quiet p (at_moment now p) None refl refl refl

pub frame_acknowledged : (now n : ℕ) (p : Contents) → FrameCore p (Some (Acknowledgement n)) (at_moment now (acknowledged n p))
unfolding at_moment acknowledged
frame_acknowledged now n p =
    let count = settled_count n p.outbox in
    let same : (s g : ℕ) → alive (acknowledged n p).streams s g ≡ alive p.streams s g = alive-settled count p.outbox.items (told_of p.streams p.events) in
    record {
      count = count;
      more = [];
      got = [];
      acknowledges = omega arith;
      brings = tt;
      within = omega arith;
      acked = refl;
      items = sym (append-nil (drop count p.outbox.items));
      silent = λ s g. refl;
      whole = λ s g. refl;
      gets = gets_none p.inbox p.streams (acknowledged n p).streams same;
      closes = λ s g c. absurd c;
      dies = λ s g d. inl (sym (same s g) ∙ d);
    }

-- a data packet: its acknowledgement, and then what came of its item
pub frame_came : (p m q : Contents) (n number : ℕ) (item : Item) (got : List Item) → Brings p.inbox.received got (Some (Data n number item)) → m ≡ acknowledged n (greeted p) → Came m q got → FrameCore p (Some (Data n number item)) q
unfolding acknowledged greeted
frame_came p m q n number item got b e h =
    let count = settled_count n p.outbox in
    let same : (s g : ℕ) → alive m.streams s g ≡ alive p.streams s g = λ s g. ap (λ (x : Contents). alive x.streams s g) e ∙ alive-settled count p.outbox.items (told_of p.streams (greeted p).events) s g in
    let inbox_is : m.inbox ≡ p.inbox = ap (λ (x : Contents). x.inbox) e in
    let P : Inbox → Type 0 = λ v. Gets v p.streams got no_reads q.inbox q.streams in
    record {
      count = count;
      more = h.more;
      got = got;
      acknowledges = omega arith;
      brings = b;
      within = omega arith;
      acked = h.arrives.acked ∙ ap (λ (x : Contents). x.outbox.acked) e;
      items = h.arrives.items ∙ ap (λ (x : Contents). x.outbox.items ++ h.more) e;
      silent = h.arrives.silent;
      whole = h.arrives.whole;
      gets = subst P inbox_is (gets_from m.inbox q.inbox p.streams m.streams q.streams got no_reads same h.arrives.gets);
      closes = h.arrives.closes;
      dies = λ s g d. elim (h.arrives.dies s g d) [ inl k ↦ inl (sym (same s g) ∙ k) | inr k ↦ inr k ];
    }

pub came_then : (now : ℕ) (m r : Contents) (got : List Item) → Came m r got → Came m (at_moment now (answered r)) got
unfolding at_moment answered
came_then now m r got h = record {
  more = h.more;
  arrives = record { acked = h.arrives.acked; items = h.arrives.items; gets = h.arrives.gets; silent = h.arrives.silent; whole = h.arrives.whole; closes = h.arrives.closes; dies = h.arrives.dies };
}

pub received_same : (n : ℕ) (p : Contents) → (acknowledged n (greeted p)).inbox.received ≡ p.inbox.received
unfolding acknowledged greeted
received_same n p = refl

pub number_is : (a b : ℕ) (c : Bool) → ((a == b) && c) ≡ true → a ≡ b
number_is a b c e = elim (eqb_tells a b) [ inl h ↦ h.1 | inr h ↦ absurd (let k : false ≡ true = rw h.0 at e in cc) ]

pub frame_numbered : (now n number : ℕ) (item : Item) (p m : Contents) (b : Bool) → m ≡ acknowledged n (greeted p) → (b ≡ true → number ≡ p.inbox.received + 1) → FrameCore p (Some (Data n number item)) (at_moment now (answered (cond b (item_taken now item m) m)))
frame_numbered now n number item p m true e f = frame_came p m (at_moment now (answered (item_taken now item m))) n number item (item ∷ []) (refl, f refl, refl) e (came_then now m (item_taken now item m) (item ∷ []) (came_taken now item m))
frame_numbered now n number item p m false e f = frame_came p m (at_moment now (answered m)) n number item [] tt e (came_then now m m [] (record { more = []; arrives = arrives_none m }))

pub frame_data : (now n number : ℕ) (item : Item) (p : Contents) → FrameCore p (Some (Data n number item)) (at_moment now (answered (item_came now number item (acknowledged n (greeted p)))))
unfolding item_came
frame_data now n number item p =
    let m = acknowledged n (greeted p) in
    frame_numbered now n number item p m ((number == m.inbox.received + 1) && not (is_ending m)) refl (λ e. number_is number (m.inbox.received + 1) (not (is_ending m)) e ∙ ap (λ k. k + 1) (received_same n p))

pub frame_framed : (now : ℕ) (f : Option Frame) (p : Contents) → FrameCore p f (at_moment now (framed now f p))
frame_framed now None p = frame_nothing now p
frame_framed now (Some Hello) p = frame_welcomed now p
frame_framed now (Some Welcome) p = frame_greeted now p
frame_framed now (Some (Data n number item)) p = frame_data now n number item p
frame_framed now (Some (Acknowledgement n)) p = frame_acknowledged now n p
frame_framed now (Some Shutdown) p = frame_lost now p

-- where want of memory came after the acknowledgement was taken
pub frame_half : (f : Option Frame) (p : Contents) → FrameCore p f (half_taken f p)
frame_half None p = frame_quiet p p None refl refl refl
frame_half (Some Hello) p = frame_quiet p p (Some Hello) refl refl refl
frame_half (Some Welcome) p = frame_quiet p p (Some Welcome) refl refl refl
frame_half (Some (Data n number item)) p = frame_came p (acknowledged n (greeted p)) (acknowledged n (greeted p)) n number item [] tt refl (record { more = []; arrives = arrives_none (acknowledged n (greeted p)) })
frame_half (Some (Acknowledgement n)) p = frame_quiet p p (Some (Acknowledgement n)) refl refl refl
frame_half (Some Shutdown) p = frame_quiet p p (Some Shutdown) refl refl refl

pub packets_half : (f : Option Frame) (p : Contents) → (half_taken f p).packets ≡ p.packets
packets_half None p = refl
packets_half (Some Hello) p = refl
packets_half (Some Welcome) p = refl
packets_half (Some (Data n number item)) p = packets-acknowledged n (greeted p) ∙ packets-greeted p
packets_half (Some (Acknowledgement n)) p = refl
packets_half (Some Shutdown) p = refl
