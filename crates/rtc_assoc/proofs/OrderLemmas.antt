-- What an end sends, and what the other one takes of it, in order.
use Rattle.std.proofs.Common.{ℕ, ◌≡◌, ◌+◌, ◌≤◌, Bool, true, false, List, [], ◌∷◌, ◌++◌, length, take, drop, Option, Some, None, refl, sym, ap, subst, ◌∙◌, arith, append_assoc, append-nil, length-append, length-drop, add-zero}
use Rattle.std.proofs.lemmas.List.{take-append-drop, take-append-le, drop-append-le, length-take-le}
use Rattle.std.proofs.Math.Seq.{drop-drop, take-append_seam, take-append-add}
use Rattle.rtc_parts.specs.AssociationWords.{AssociationMessage}
use Rattle.rtc_assoc_state.specs.declared.item.Item.{Item}
use Rattle.rtc_assoc_state.specs.declared.frame.Frame.{Frame}
use Rattle.rtc_assoc_state.specs.declared.frame.Frame.TheVariants.{Hello, Welcome, Data, Acknowledgement, Shutdown}
use Rattle.rtc_assoc_state.specs.declared.stream_row.StreamRow.{StreamRow}
use Rattle.rtc_assoc_state.specs.Inbox.{Inbox, bytes_so_far}
use Rattle.rtc_assoc_state.specs.Outbox.{Outbox}
use Rattle.rtc_assoc_state.specs.Contents.{Contents}
use Rattle.rtc_assoc_state.specs.Says.{Numbered, SaysPacket}
use Rattle.rtc_assoc.specs.Unread.{unread, IsPrefix}
use Rattle.rtc_assoc.proofs.MessageLemmas.{messages, left, messages-append, left-append, HasClose, close-left, close-right}
use Rattle.rtc_assoc.proofs.UnreadLemmas.{prefix_is, prefix_then, prefix_more, prefix_behind}
use Rattle.rtc_assoc.proofs.AliveLemmas.{alive}
use Rattle.rtc_assoc.proofs.ArriveLemmas.{Gets}
use Rattle.rtc_assoc.proofs.FrameLemmas.{Acknowledges, Brings}

-- numbered items
pub numbered_more : (base number : ℕ) (item : Item) (xs ys : List Item) → Numbered base xs number item → Numbered base (xs ++ ys) number item
numbered_more base number item xs ys n = record {
  before = n.before;
  after = n.after ++ ys;
  is = ap (λ l. l ++ ys) n.is ∙ append_assoc n.before (item ∷ n.after) ys;
  number_is = n.number_is;
}

pub numbered_drop : (n number : ℕ) (item : Item) (w : List Item) → n ≤ length w → Numbered n (drop n w) number item → Numbered 0 w number item
numbered_drop n number item w h m = record {
  before = take n w ++ m.before;
  after = m.after;
  is = sym (take-append-drop n w) ∙ ap (λ l. take n w ++ l) m.is ∙ sym (append_assoc (take n w) m.before (item ∷ m.after));
  number_is = omega (arith, m.number_is, length-append (take n w) m.before, length-take-le n w h);
}

pub numbered_within : (number : ℕ) (item : Item) (w : List Item) → Numbered 0 w number item → number ≤ length w
numbered_within number item w m = omega (arith, m.number_is, ap length m.is, length-append m.before (item ∷ m.after))

pub numbered_take : (number r : ℕ) (item : Item) (w : List Item) → Numbered 0 w number item → number ≡ r + 1 → take (r + 1) w ≡ take r w ++ item ∷ []
numbered_take number r item w m h =
    let at : length m.before ≡ r = omega (arith, m.number_is, h) in
    rw (← at, m.is, take-append-add, take-append_seam)

-- an end sent these items in all, and the other one got so many
pub record SenderOk (w : List Item) (received : ℕ) (c : Outbox) : Type 0 where
  pub rest : c.items ≡ drop c.acked w
  pub count : c.acked + length c.items ≡ length w
  pub behind : c.acked ≤ received

-- what an end has read and holds unread is what the first items that it got carry
pub record ReceiverOk (w : List Item) (r : ℕ → ℕ → List AssociationMessage) (a : Inbox) (x : List StreamRow) : Type 0 where
  pub within : a.received ≤ length w
  pub begins : (s g : ℕ) → IsPrefix (r s g ++ unread s g a.unread) (messages s g [] (take a.received w))
  pub exact : (s g : ℕ) → alive x s g ≡ true → r s g ++ unread s g a.unread ≡ messages s g [] (take a.received w)
  pub front_is : (s g : ℕ) → alive x s g ≡ true → bytes_so_far s g a.parts ≡ left s g [] (take a.received w)

-- a packet of data has an item that was sent, under its number; an acknowledgement names no more than came
abbrev pub Honest : List Item → Option Frame → Type 0
Honest w None = Unit {0}
Honest w (Some Hello) = Unit {0}
Honest w (Some Welcome) = Unit {0}
Honest w (Some (Data n number item)) = Numbered 0 w number item
Honest w (Some (Acknowledgement n)) = Unit {0}
Honest w (Some Shutdown) = Unit {0}

abbrev pub Modest : ℕ → Option Frame → Type 0
Modest received None = Unit {0}
Modest received (Some Hello) = Unit {0}
Modest received (Some Welcome) = Unit {0}
Modest received (Some (Data n number item)) = n ≤ received
Modest received (Some (Acknowledgement n)) = n ≤ received
Modest received (Some Shutdown) = Unit {0}

pub acked_behind : (acked count received : ℕ) (f : Option Frame) → Acknowledges acked count f → Modest received f → acked ≤ received → acked + count ≤ received
acked_behind acked count r None e m h = omega (arith, e, h)
acked_behind acked count r (Some Hello) e m h = omega (arith, e, h)
acked_behind acked count r (Some Welcome) e m h = omega (arith, e, h)
acked_behind acked count r (Some (Data n number item)) e m h = omega (arith, e, m, h)
acked_behind acked count r (Some (Acknowledgement n)) e m h = omega (arith, e, m, h)
acked_behind acked count r (Some Shutdown) e m h = omega (arith, e, h)

pub sender_step : (w : List Item) (received count : ℕ) (more : List Item) (c d : Outbox) → count ≤ length c.items → d.acked ≡ c.acked + count → d.items ≡ drop count c.items ++ more → c.acked + count ≤ received → SenderOk w received c → SenderOk (w ++ more) received d
sender_step w received count more c d within acked items h s = record {
  rest = items ∙ ap (λ l. drop count l ++ more) s.rest ∙ ap (λ l. l ++ more) (drop-drop count c.acked w)
      ∙ sym (drop-append-le (c.acked + count) w more (omega (arith, s.count, within))) ∙ ap (λ n. drop n (w ++ more)) (sym acked);
  count = omega (arith, s.count, within, acked, ap length items, length-append (drop count c.items) more, length-drop count c.items, length-append w more);
  behind = omega (arith, acked, h);
}

pub sender_later : (w : List Item) (r t : ℕ) (c : Outbox) → r ≤ t → SenderOk w r c → SenderOk w t c
sender_later w r t c h s = record { rest = s.rest; count = s.count; behind = omega (arith, s.behind, h) }

pub receiver_grew : (w : List Item) (r : ℕ → ℕ → List AssociationMessage) (a : Inbox) (x : List StreamRow) (more : List Item) → ReceiverOk w r a x → ReceiverOk (w ++ more) r a x
receiver_grew w r a x more h =
    let e : take a.received (w ++ more) ≡ take a.received w = take-append-le a.received w more h.within in
    record {
      within = omega (arith, h.within, length-append w more);
      begins = λ s g. rw e (h.begins s g);
      exact = λ s g l. rw e (h.exact s g l);
      front_is = λ s g l. rw e (h.front_is s g l);
    }

-- what comes is what is next
pub record Next (w : List Item) (received : ℕ) (got : List Item) : Type 0 where
  pub within : received + length got ≤ length w
  pub is : take (received + length got) w ≡ take received w ++ got

pub next_none : (w : List Item) (received : ℕ) → received ≤ length w → Next w received []
next_none w received h = record { within = omega (arith, h); is = rw add-zero (sym (append-nil (take received w))) }

pub brought : (w : List Item) (received : ℕ) (got : List Item) (f : Option Frame) → Brings received got f → Honest w f → received ≤ length w → Next w received got
brought w received [] f b h k = next_none w received k
brought w received (item ∷ items) None b h k = absurd b
brought w received (item ∷ items) (Some Hello) b h k = absurd b
brought w received (item ∷ items) (Some Welcome) b h k = absurd b
brought w received (item ∷ items) (Some (Data n number other)) b h k =
    let one : Next w received (other ∷ []) = record { within = omega (arith, numbered_within number other w h, b.1); is = numbered_take number received other w h b.1 } in
    subst (λ (i : Item). Next w received (i ∷ items)) (sym b.0) (subst (λ (l : List Item). Next w received (other ∷ l)) (sym b.2) one)
brought w received (item ∷ items) (Some (Acknowledgement n)) b h k = absurd b
brought w received (item ∷ items) (Some Shutdown) b h k = absurd b

pub close_next : (w : List Item) (received : ℕ) (got : List Item) (s g : ℕ) → Next w received got → HasClose s g got → HasClose s g w
close_next w received got s g n c =
    let all : take (received + length got) w ++ drop (received + length got) w ≡ w = take-append-drop (received + length got) w in
    let front : HasClose s g (take (received + length got) w) = subst (λ (l : List Item). HasClose s g l) (sym n.is) (close-right s g (take received w) got c) in
    subst (λ (l : List Item). HasClose s g l) all (close-left s g (take (received + length got) w) (drop (received + length got) w) front)

-- by whether messages of the generation are still taken
pub prefix_by : (xs ys : List AssociationMessage) (b : Bool) → (b ≡ true → xs ≡ ys) → (b ≡ false → IsPrefix xs ys) → IsPrefix xs ys
prefix_by xs ys true t f = prefix_is xs ys (t refl)
prefix_by xs ys false t f = f refl

pub receiver_step : (w : List Item) (r reads : ℕ → ℕ → List AssociationMessage) (a b : Inbox) (x y : List StreamRow) (got : List Item) → Gets a x got reads b y → Next w a.received got → ReceiverOk w r a x → ReceiverOk w (λ s g. r s g ++ reads s g) b y
receiver_step w r reads a b x y got h t k =
    let now : (s g : ℕ) → messages s g [] (take b.received w) ≡ messages s g [] (take a.received w) ++ messages s g (left s g [] (take a.received w)) got =
    λ s g. ap (λ n. messages s g [] (take n w)) h.count ∙ ap (messages s g []) t.is ∙ messages-append s g [] (take a.received w) got in
    let exact : (s g : ℕ) → alive y s g ≡ true → (r s g ++ reads s g) ++ unread s g b.unread ≡ messages s g [] (take b.received w) =
    λ s g l. append_assoc (r s g) (reads s g) (unread s g b.unread)
    ∙ ap (λ l. r s g ++ l) (h.unread_is s g l)
    ∙ sym (append_assoc (r s g) (unread s g a.unread) (messages s g (bytes_so_far s g a.parts) got))
    ∙ ap (λ l. l ++ messages s g (bytes_so_far s g a.parts) got) (k.exact s g (h.fewer s g l))
    ∙ ap (λ f. messages s g [] (take a.received w) ++ messages s g f got) (k.front_is s g (h.fewer s g l))
    ∙ sym (now s g) in
    record {
      within = omega (arith, h.count, t.within);
      begins = λ s g. prefix_by ((r s g ++ reads s g) ++ unread s g b.unread) (messages s g [] (take b.received w)) (alive y s g) (exact s g) (λ e.
          let old : IsPrefix (r s g ++ (reads s g ++ unread s g b.unread)) (messages s g [] (take a.received w)) =
          prefix_then (r s g ++ (reads s g ++ unread s g b.unread)) (r s g ++ unread s g a.unread) (messages s g [] (take a.received w)) (prefix_behind (r s g) (reads s g ++ unread s g b.unread) (unread s g a.unread) (h.gone s g e)) (k.begins s g) in
          let more : IsPrefix (r s g ++ (reads s g ++ unread s g b.unread)) (messages s g [] (take a.received w) ++ messages s g (left s g [] (take a.received w)) got) =
          prefix_more (r s g ++ (reads s g ++ unread s g b.unread)) (messages s g [] (take a.received w)) (messages s g (left s g [] (take a.received w)) got) old in
          let P : List AssociationMessage → Type 0 = λ l. IsPrefix l (messages s g [] (take b.received w)) in
          let Q : List AssociationMessage → Type 0 = λ l. IsPrefix (r s g ++ (reads s g ++ unread s g b.unread)) l in
          subst P (sym (append_assoc (r s g) (reads s g) (unread s g b.unread))) (subst Q (sym (now s g)) more));
      exact = exact;
      front_is = λ s g l. h.front_is s g l ∙ ap (λ f. left s g f got) (k.front_is s g (h.fewer s g l)) ∙ sym (left-append s g [] (take a.received w) got) ∙ ap (left s g []) (sym t.is) ∙ ap (λ n. left s g [] (take n w)) (sym h.count);
    }

pub honest_grew : (w more : List Item) (f : Option Frame) → Honest w f → Honest (w ++ more) f
honest_grew w more None h = tt
honest_grew w more (Some Hello) h = tt
honest_grew w more (Some Welcome) h = tt
honest_grew w more (Some (Data n number item)) h = numbered_more 0 number item w more h
honest_grew w more (Some (Acknowledgement n)) h = tt
honest_grew w more (Some Shutdown) h = tt

pub honest_says : (w : List Item) (received : ℕ) (c : Contents) (f : Option Frame) → SenderOk w received c.outbox → SaysPacket c f → Honest w f
honest_says w received c None s h = tt
honest_says w received c (Some Hello) s h = tt
honest_says w received c (Some Welcome) s h = tt
honest_says w received c (Some (Data n number item)) s h =
    numbered_drop c.outbox.acked number item w (omega (arith, s.count)) (subst (λ (l : List Item). Numbered c.outbox.acked l number item) s.rest h.1)
honest_says w received c (Some (Acknowledgement n)) s h = tt
honest_says w received c (Some Shutdown) s h = tt

pub modest_later : (r t : ℕ) (f : Option Frame) → r ≤ t → Modest r f → Modest t f
modest_later r t None h m = tt
modest_later r t (Some Hello) h m = tt
modest_later r t (Some Welcome) h m = tt
modest_later r t (Some (Data n number item)) h m = omega (arith, h, m)
modest_later r t (Some (Acknowledgement n)) h m = omega (arith, h, m)
modest_later r t (Some Shutdown) h m = tt

pub modest_says : (c : Contents) (f : Option Frame) → SaysPacket c f → Modest c.inbox.received f
modest_says c None h = tt
modest_says c (Some Hello) h = tt
modest_says c (Some Welcome) h = tt
modest_says c (Some (Data n number item)) h = omega (arith, h.0)
modest_says c (Some (Acknowledgement n)) h = omega (arith, h)
modest_says c (Some Shutdown) h = tt
