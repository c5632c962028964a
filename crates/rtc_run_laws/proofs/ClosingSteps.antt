-- Steps of an end of the plain association, by what they do to the closes of generations.
use Rattle.std.proofs.Common.{◌≡◌, ◌∙◌, ◌+◌, ℕ, List, [], ◌++◌, drop, length, append-nil, Option, sym, ap, subst, arith}
use Rattle.rtc_assoc_state.specs.declared.item.Item.{Item}
use Rattle.rtc_assoc_state.specs.declared.frame.Frame.{Frame}
use Rattle.rtc_assoc_state.specs.declared.stream_row.StreamRow.{StreamRow}
use Rattle.rtc_assoc_state.specs.Contents.{Contents}
use Rattle.rtc_assoc_state.specs.Streams.{put, stream_of}
use Rattle.rtc_assoc_state.specs.Outbox.{Outbox}
use Rattle.rtc_assoc.proofs.MessageLemmas.{HasClose, close-left}
use Rattle.rtc_assoc.proofs.FrameLemmas.{Brings}
use Rattle.rtc_run_laws.proofs.SentOrder.{AllOf, OrderedFrom}
use Rattle.rtc_run_laws.proofs.ClosingRows.{Keeps, RowKeeps, keeps_put}

-- behind an act so many items are acknowledged, these are sent, and these came, by the packet that it gave if any
pub record EndGo (f : Option Frame) (p q : Contents) : Type 0 where
  pub count : ℕ
  pub more : List Item
  pub got : List Item
  pub acked : q.outbox.acked ≡ p.outbox.acked + count
  pub items : q.outbox.items ≡ drop count p.outbox.items ++ more
  pub received : q.inbox.received ≡ p.inbox.received + length got
  pub strayed : q.inbox.strayed ≡ p.inbox.strayed
  pub brings : Brings p.inbox.received got f
  pub keeps : (w r : List Item) → Keeps p.streams p.outbox.items w r → Keeps q.streams q.outbox.items (w ++ more) (r ++ got)
  pub fits : (w r : List Item) → Keeps p.streams p.outbox.items w r → OrderedFrom w more

-- one that acknowledges none
pub record TakeGo (f : Option Frame) (p q : Contents) : Type 0 where
  pub more : List Item
  pub got : List Item
  pub acked : q.outbox.acked ≡ p.outbox.acked
  pub items : q.outbox.items ≡ p.outbox.items ++ more
  pub received : q.inbox.received ≡ p.inbox.received + length got
  pub strayed : q.inbox.strayed ≡ p.inbox.strayed
  pub brings : Brings p.inbox.received got f
  pub keeps : (w r : List Item) → Keeps p.streams p.outbox.items w r → Keeps q.streams q.outbox.items (w ++ more) (r ++ got)
  pub fits : (w r : List Item) → Keeps p.streams p.outbox.items w r → OrderedFrom w more

pub keeps_at : (streams streams' : List StreamRow) (items items' w r : List Item) → streams' ≡ streams → items' ≡ items → Keeps streams items w r
    → Keeps streams' items' w r
keeps_at streams streams' items items' w r s i h =
    subst (λ (l : List StreamRow). Keeps l items' w r) (sym s) (subst (λ (l : List Item). Keeps streams l w r) (sym i) h)

pub ghosts_at : (streams : List StreamRow) (items w w' r r' : List Item) → w' ≡ w → r' ≡ r → Keeps streams items w r → Keeps streams items w' r'
ghosts_at streams items w w' r r' a b h =
    subst (λ (l : List Item). Keeps streams items l r') (sym a) (subst (λ (l : List Item). Keeps streams items w l) (sym b) h)

pub go_of : (f : Option Frame) (p q : Contents) → TakeGo f p q → EndGo f p q
go_of f p q h = record {
  count = 0;
  more = h.more;
  got = h.got;
  acked = (let same = h.acked in omega (arith, same));
  items = h.items;
  received = h.received;
  strayed = h.strayed;
  brings = h.brings;
  keeps = h.keeps;
  fits = h.fits;
}

pub take_same : (f : Option Frame) (p q : Contents) → q.streams ≡ p.streams → q.outbox ≡ p.outbox → q.inbox.received ≡ p.inbox.received → q.inbox.strayed ≡ p.inbox.strayed → TakeGo f p q
take_same f p q s o i a = record {
  more = [];
  got = [];
  acked = ap (λ (x : Outbox). x.acked) o;
  items = ap (λ (x : Outbox). x.items) o ∙ sym (append-nil p.outbox.items);
  received = omega (arith, i);
  strayed = a;
  brings = tt;
  keeps = λ w r h.
      ghosts_at q.streams q.outbox.items w (w ++ []) r (r ++ []) (append-nil w) (append-nil r)
      (keeps_at p.streams q.streams p.outbox.items q.outbox.items w r s (ap (λ (x : Outbox). x.items) o) h);
  fits = λ w r h. tt;
}

pub go_same : (f : Option Frame) (p q : Contents) → q.streams ≡ p.streams → q.outbox ≡ p.outbox → q.inbox.received ≡ p.inbox.received → q.inbox.strayed ≡ p.inbox.strayed → EndGo f p q
go_same f p q s o i a = go_of f p q (take_same f p q s o i a)

-- what is done besides
pub take_as : (f : Option Frame) (p m q : Contents) → q.streams ≡ m.streams → q.outbox ≡ m.outbox → q.inbox.received ≡ m.inbox.received → q.inbox.strayed ≡ m.inbox.strayed → TakeGo f p m
    → TakeGo f p q
take_as f p m q s o i a h = record {
  more = h.more;
  got = h.got;
  acked = ap (λ (x : Outbox). x.acked) o ∙ h.acked;
  items = ap (λ (x : Outbox). x.items) o ∙ h.items;
  received = i ∙ h.received;
  strayed = a ∙ h.strayed;
  brings = h.brings;
  keeps = λ w r k.
      keeps_at m.streams q.streams m.outbox.items q.outbox.items (w ++ h.more) (r ++ h.got) s (ap (λ (x : Outbox). x.items) o) (h.keeps w r k);
  fits = h.fits;
}

pub go_as : (f : Option Frame) (p m q : Contents) → q.streams ≡ m.streams → q.outbox ≡ m.outbox → q.inbox.received ≡ m.inbox.received → q.inbox.strayed ≡ m.inbox.strayed → EndGo f p m
    → EndGo f p q
go_as f p m q s o i a h = record {
  count = h.count;
  more = h.more;
  got = h.got;
  acked = ap (λ (x : Outbox). x.acked) o ∙ h.acked;
  items = ap (λ (x : Outbox). x.items) o ∙ h.items;
  received = i ∙ h.received;
  strayed = a ∙ h.strayed;
  brings = h.brings;
  keeps = λ w r k.
      keeps_at m.streams q.streams m.outbox.items q.outbox.items (w ++ h.more) (r ++ h.got) s (ap (λ (x : Outbox). x.items) o) (h.keeps w r k);
  fits = h.fits;
}

pub go_at : (f : Option Frame) (p q r : Contents) → q ≡ r → EndGo f p r → EndGo f p q
go_at f p q r e h = subst (EndGo f p) (sym e) h

-- a row in place of that of its stream
pub record RowGo (id : ℕ) (row : StreamRow) (more got : List Item) (f : Option Frame) (p q : Contents) : Type 0 where
  pub stream_is : row.stream ≡ id
  pub streams : q.streams ≡ put row p.streams
  pub acked : q.outbox.acked ≡ p.outbox.acked
  pub items : q.outbox.items ≡ p.outbox.items ++ more
  pub received : q.inbox.received ≡ p.inbox.received + length got
  pub strayed : q.inbox.strayed ≡ p.inbox.strayed
  pub brings : Brings p.inbox.received got f
  pub own : (s g : ℕ) → HasClose s g got → s ≡ id
  pub sent : AllOf id more
  pub fits : (w r : List Item) → RowKeeps id (stream_of id p.streams) p.outbox.items w r → OrderedFrom w more
  pub keeps : (w r : List Item) → RowKeeps id (stream_of id p.streams) p.outbox.items w r → RowKeeps id row (p.outbox.items ++ more) (w ++ more) (r ++ got)

pub take_put : (id : ℕ) (row : StreamRow) (more got : List Item) (f : Option Frame) (p q : Contents) → RowGo id row more got f p q → TakeGo f p q
take_put id row more got f p q k = record {
  more = more;
  got = got;
  acked = k.acked;
  items = k.items;
  received = k.received;
  strayed = k.strayed;
  brings = k.brings;
  keeps = λ w r h.
      keeps_at (put row p.streams) q.streams (p.outbox.items ++ more) q.outbox.items (w ++ more) (r ++ got) k.streams k.items
      (keeps_put id row p.streams p.outbox.items (p.outbox.items ++ more) w more r got k.stream_is (k.keeps w r (h id))
      (λ s g ne c. close-left s g p.outbox.items more c) k.own k.sent h);
  fits = λ w r h. k.fits w r (h id);
}
