-- Parts of messages that came to an end of the plain association are of pieces that packets brought, and pieces that it sends of messages
-- that were written.
use Rattle.std.proofs.Common.{◌≡◌, ◌∙◌, ◌⊎◌, ◌+◌, ◌++◌, ◌∷◌, ◌==◌, ◌&&◌, inl, inr, not, nat_le, cond, zero, suc, ℕ, Bool, true, false, true≢false, List, [], drop, take, length, Option, Some, None, refl, sym, subst, arith}
use Rattle.std.specs.Prelude.{if◌then◌else◌}
use Rattle.rtc_parts.specs.AssociationActs.{AssociationAct, Wrote, Given}
use Rattle.rtc_parts.specs.AssociationWords.{AssociationMessage, written}
use Rattle.rtc_assoc_state.specs.declared.item.Item.{Item}
use Rattle.rtc_assoc_state.specs.declared.item_part.ItemPart.{ItemPart}
use Rattle.rtc_assoc_state.specs.declared.item_part.ItemPart.TheVariants.{More, Last, Close}
use Rattle.rtc_assoc_state.specs.declared.frame.Frame.{Frame}
use Rattle.rtc_assoc_state.specs.declared.frame.Frame.TheVariants.{Hello, Welcome, Data, Acknowledgement, Shutdown}
use Rattle.rtc_assoc_state.specs.Packets.{frame_in}
use Rattle.rtc_assoc_state.specs.Pieces.{close_of, piece, pieces_within}
use Rattle.rtc_assoc_state.specs.declared.close_state.CloseState.{CloseState}
use Rattle.rtc_assoc_state.specs.declared.close_state.CloseState.TheVariants.{Unclosed, Queued, Acknowledged}
use Rattle.rtc_assoc_state.specs.declared.stream_row.StreamRow.{StreamRow}
use Rattle.rtc_assoc_state.specs.Contents.{Contents, is_ending}
use Rattle.rtc_assoc_state.specs.Streams.{stream_of, reset_row, takes_messages}
use Rattle.rtc_assoc_state.specs.Outbox.{settled_count}
use Rattle.rtc_assoc_state.specs.Settling.{can_reset}
use Rattle.rtc_assoc_state.specs.Calls.{sent, greeted, acknowledged, item_counted, more_kept, last_kept, piece_kept, finished, reset_told, close_came_at, part_came, item_taken, item_came}
use Rattle.rtc_sctp_laws.proofs.KeptLists.{HasPart, bytes_back, part_before}

-- an item is a piece of a message, and no close
abbrev pub IsPiece : (s g : ℕ) → Item → Type 0
IsPiece s g item = (item.part ≡ Close → ⊥) × (item.stream ≡ s) × (item.generation ≡ g)

abbrev pub HasPiece : (s g : ℕ) → List Item → Type 0
HasPiece s g [] = ⊥
HasPiece s g (item ∷ items) = IsPiece s g item ⊎ HasPiece s g items

pub piece_left : (s g : ℕ) (xs ys : List Item) → HasPiece s g xs → HasPiece s g (xs ++ ys)
piece_left s g [] ys h = absurd h
piece_left s g (x ∷ xs) ys (inl h) = inl h
piece_left s g (x ∷ xs) ys (inr h) = inr (piece_left s g xs ys h)

pub piece_right : (s g : ℕ) (xs ys : List Item) → HasPiece s g ys → HasPiece s g (xs ++ ys)
piece_right s g [] ys h = h
piece_right s g (x ∷ xs) ys h = inr (piece_right s g xs ys h)

pub piece_either : (s g : ℕ) (xs ys : List Item) → HasPiece s g (xs ++ ys) → HasPiece s g xs ⊎ HasPiece s g ys
piece_either s g [] ys h = inr h
piece_either s g (x ∷ xs) ys (inl h) = inl (inl h)
piece_either s g (x ∷ xs) ys (inr h) = by (piece_either s g xs ys h)
  where
    by : HasPiece s g xs ⊎ HasPiece s g ys → HasPiece s g (x ∷ xs) ⊎ HasPiece s g ys
    by (inl k) = inl (inr k)
    by (inr k) = inr k

pub piece_dropped : (s g n : ℕ) (xs : List Item) → HasPiece s g (drop n xs) → HasPiece s g xs
piece_dropped s g zero xs h = h
piece_dropped s g (suc n) [] h = absurd h
piece_dropped s g (suc n) (x ∷ xs) h = inr (piece_dropped s g n xs h)

-- the piece that a packet brings
abbrev pub BringsPiece : (s g : ℕ) → Option Frame → Type 0
BringsPiece s g None = ⊥
BringsPiece s g (Some Hello) = ⊥
BringsPiece s g (Some Welcome) = ⊥
BringsPiece s g (Some (Data n number item)) = IsPiece s g item
BringsPiece s g (Some (Acknowledgement n)) = ⊥
BringsPiece s g (Some Shutdown) = ⊥

abbrev pub GivesPiece : (s g : ℕ) → AssociationAct → Type 0
GivesPiece s g (Given bytes) = BringsPiece s g (frame_in bytes)
GivesPiece s g act = ⊥

-- an act that brings no other pieces and parts
pub record ActParts (p : Contents) (act : AssociationAct) (q : Contents) : Type 0 where
  pub items : (s g : ℕ) → HasPiece s g q.outbox.items → HasPiece s g p.outbox.items ⊎ (written s g (act ∷ []) ≡ [] → ⊥)
  pub parts : (s g : ℕ) → HasPart s g q.inbox.parts → HasPart s g p.inbox.parts ⊎ GivesPiece s g act

-- no piece or part is new
pub record Stay (p q : Contents) : Type 0 where
  pub items : (s g : ℕ) → HasPiece s g q.outbox.items → HasPiece s g p.outbox.items
  pub parts : (s g : ℕ) → HasPart s g q.inbox.parts → HasPart s g p.inbox.parts

-- no piece is new, and a part only by the piece that a packet brings
pub record PacketParts (f : Option Frame) (p q : Contents) : Type 0 where
  pub items : (s g : ℕ) → HasPiece s g q.outbox.items → HasPiece s g p.outbox.items
  pub parts : (s g : ℕ) → HasPart s g q.inbox.parts → HasPart s g p.inbox.parts ⊎ BringsPiece s g f

pub stay_none : (p : Contents) → Stay p p
stay_none p = record { items = λ s g h. h; parts = λ s g h. h }

pub stay_same : (p q : Contents) → q.outbox.items ≡ p.outbox.items → q.inbox.parts ≡ p.inbox.parts → Stay p q
stay_same p q items parts =
    record { items = λ s g h. subst (λ l. HasPiece s g l) items h; parts = λ s g h. subst (λ l. HasPart s g l) parts h }

pub act_stay : (p q : Contents) (act : AssociationAct) → Stay p q → ActParts p act q
act_stay p q act h = record { items = λ s g k. inl (h.items s g k); parts = λ s g k. inl (h.parts s g k) }

pub packet_stay : (f : Option Frame) (p q : Contents) → Stay p q → PacketParts f p q
packet_stay f p q h = record { items = h.items; parts = λ s g k. inl (h.parts s g k) }

-- ---- pieces

no_piece : (s g t n : ℕ) → HasPiece s g (close_of t n ∷ []) → ⊥
no_piece s g t n (inl h) = h.0 refl
no_piece s g t n (inr h) = h

pub with_close : (s g t n : ℕ) (items : List Item) → HasPiece s g (items ++ close_of t n ∷ []) → HasPiece s g items
with_close s g t n items h = by (piece_either s g items (close_of t n ∷ []) h)
  where
    by : HasPiece s g items ⊎ HasPiece s g (close_of t n ∷ []) → HasPiece s g items
    by (inl k) = k
    by (inr k) = absurd (no_piece s g t n k)

pub own_pieces : (count size t n i : ℕ) (bytes : List ℕ) (s g : ℕ) → HasPiece s g (pieces_within count size t n i bytes) → (t ≡ s) × (n ≡ g)
unfolding pieces_within
own_pieces zero size t n i bytes s g (inl h) = (h.1, h.2)
own_pieces zero size t n i bytes s g (inr h) = absurd h
own_pieces (suc count) size t n i bytes s g h =
    by (nat_le (length bytes) size) h (λ k. own_pieces count size t n i (drop size bytes) s g k)
  where
    by : (b : Bool)
        → HasPiece s g (cond b (piece t n Last i bytes ∷ []) (piece t n More i (take size bytes) ∷ pieces_within count size t n i (drop size bytes)))
        → (HasPiece s g (pieces_within count size t n i (drop size bytes)) → (t ≡ s) × (n ≡ g)) → (t ≡ s) × (n ≡ g)
    by true (inl k) rest = (k.1, k.2)
    by true (inr k) rest = absurd k
    by false (inl k) rest = (k.1, k.2)
    by false (inr k) rest = rest k

no_message : (x : AssociationMessage) (xs : List AssociationMessage) → x ∷ xs ≡ [] → ⊥
no_message x xs h = cc

pub written_own : (t n i : ℕ) (bytes : List ℕ) (s g : ℕ) → t ≡ s → n ≡ g → written s g (Wrote t n i bytes ∷ []) ≡ [] → ⊥
written_own t n i bytes s g a b = by ((t == s) && (n == g)) test
  where
    both : (x y : Bool) → x ≡ true → y ≡ true → (x && y) ≡ true
    both x y e f = rw (e, f) refl

    test : ((t == s) && (n == g)) ≡ true
    test = both (t == s) (n == g) (grind (arith, a)) (grind (arith, b))

    none : List AssociationMessage
    none = []

    by : (c : Bool) → c ≡ true → (if c then record { identifier = i; bytes = bytes } ∷ [] else []) ≡ none → ⊥
    by true e k = no_message _ _ k
    by false e k = true≢false (sym e)

-- ---- packets

pub stay_acknowledged : (n : ℕ) (p : Contents) → Stay p (acknowledged n p)
unfolding acknowledged
stay_acknowledged n p = record { items = λ s g h. piece_dropped s g (settled_count n p.outbox) p.outbox.items h; parts = λ s g h. h }

pub stay_front : (n : ℕ) (p : Contents) → Stay p (acknowledged n (greeted p))
unfolding greeted
stay_front n p = let h = stay_acknowledged n (greeted p) in record { items = λ s g k. h.items s g k; parts = λ s g k. h.parts s g k }

module _ (n number : ℕ) (item : Item) (p : Contents) where
  abbrev row : StreamRow
  row = record (stream_of item.stream p.streams) { there = true }

  stay_counted : (new : StreamRow) → Stay p (item_counted new p)
  unfolding item_counted
  stay_counted new = record { items = λ s g h. h; parts = λ s g h. h }

  more_parts : (item.part ≡ Close → ⊥) → PacketParts (Some (Data n number item)) p (more_kept item (item_counted row p))
  unfolding more_kept item_counted
  more_parts open_piece = record { items = λ s g h. h; parts = λ s g h. by s g (bytes_back s g item.stream item.generation item.bytes p.inbox.parts h) }
    where
      by : (s g : ℕ) → HasPart s g p.inbox.parts ⊎ ((item.stream ≡ s) × (item.generation ≡ g)) → HasPart s g p.inbox.parts ⊎ IsPiece s g item
      by s g (inl k) = inl k
      by s g (inr k) = inr (open_piece, k.0, k.1)

  last_parts : Stay p (last_kept item (item_counted row p))
  unfolding last_kept item_counted
  last_parts = record { items = λ s g h. h; parts = λ s g h. part_before s g item.stream item.generation p.inbox.parts h }

  piece_parts : (b : Bool) (part : ItemPart) → item.part ≡ part → (part ≡ Close → ⊥)
      → PacketParts (Some (Data n number item)) p (cond b (piece_kept part item (item_counted row p)) (item_counted row p))
  piece_parts true Last is ne = packet_stay (Some (Data n number item)) p (last_kept item (item_counted row p)) last_parts
  piece_parts true More is ne = more_parts (λ e. ne (sym is ∙ e))
  piece_parts true Close is ne = absurd (ne refl)
  piece_parts false part is ne = packet_stay (Some (Data n number item)) p (item_counted row p) (stay_counted row)

  stay_then : (new : StreamRow) → Stay p (item_counted new (finished row p))
  unfolding item_counted finished
  stay_then new = record { items = λ s g h. h; parts = λ s g h. part_before s g row.stream row.generation p.inbox.parts h }

  stay_reset : (b : Bool)
      → Stay p (cond b (reset_told row (item_counted (reset_row row) (finished row p))) (item_counted (record row { finished = true }) (finished row p)))
  unfolding reset_told
  stay_reset true = let h = stay_then (reset_row row) in record { items = λ s g k. h.items s g k; parts = λ s g k. h.parts s g k }
  stay_reset false = stay_then (record row { finished = true })

  stay_close : (close : CloseState) (now : ℕ) → Stay p (close_came_at close now row (finished row p))
  unfolding sent
  stay_close Unclosed now =
      let h = stay_then (record row { close = Queued; finished = true }) in
      record {
        items = λ s g k.
            h.items s g
            (with_close s g row.stream row.generation (item_counted (record row { close = Queued; finished = true }) (finished row p)).outbox.items k);
        parts = λ s g k. h.parts s g k;
      }
  stay_close Queued now = stay_then (record row { finished = true })
  stay_close Acknowledged now = stay_reset (can_reset row)

  stay_came : (b : Bool) (now : ℕ) → Stay p (cond b (close_came_at row.close now row (finished row p)) (item_counted row p))
  stay_came true now = stay_close row.close now
  stay_came false now = stay_counted row

  no_last : Last ≡ Close → ⊥
  no_last h = cc

  no_more : More ≡ Close → ⊥
  no_more h = cc

  item_parts : (part : ItemPart) (now : ℕ) → item.part ≡ part → PacketParts (Some (Data n number item)) p (part_came part now item row p)
  item_parts Close now is =
      packet_stay (Some (Data n number item)) p (part_came Close now item row p) (stay_came (item.generation == row.generation) now)
  item_parts More now is = piece_parts (takes_messages row item.generation) item.part refl (λ e. no_more (sym is ∙ e))
  item_parts Last now is = piece_parts (takes_messages row item.generation) item.part refl (λ e. no_last (sym is ∙ e))

  if_parts : (b : Bool) (now : ℕ) → PacketParts (Some (Data n number item)) p (cond b (item_taken now item p) p)
  if_parts true now = let h = item_parts item.part now refl in record { items = h.items; parts = h.parts }
  if_parts false now = packet_stay (Some (Data n number item)) p p (stay_none p)

  pub came_parts : (now : ℕ) → PacketParts (Some (Data n number item)) p (item_came now number item p)
  unfolding item_came
  came_parts now = if_parts ((number == p.inbox.received + 1) && not (is_ending p)) now
