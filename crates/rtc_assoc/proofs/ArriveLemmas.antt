-- What an end keeps of the items that come.
use Rattle.std.proofs.Common.{◌||◌, ℕ, ◌≡◌, ◌+◌, ◌⊎◌, not, inl, inr, Bool, true, false, cond, List, [], ◌∷◌, ◌++◌, length, refl, sym, ap, subst, ◌∙◌, arith, append-nil}
use Rattle.std.proofs.lemmas.Bool.Decides.{eqb_tells}
use Rattle.rtc_parts.specs.AssociationWords.{AssociationMessage}
use Rattle.rtc_assoc_state.specs.declared.item.Item.{Item}
use Rattle.rtc_assoc_state.specs.declared.item_part.ItemPart.{ItemPart}
use Rattle.rtc_assoc_state.specs.declared.item_part.ItemPart.TheVariants.{More, Last, Close}
use Rattle.rtc_assoc_state.specs.Pieces.{piece, close_of}
use Rattle.rtc_assoc_state.specs.declared.close_state.CloseState.{CloseState}
use Rattle.rtc_assoc_state.specs.declared.close_state.CloseState.TheVariants.{Unclosed, Queued, Acknowledged}
use Rattle.rtc_assoc_state.specs.declared.stream_row.StreamRow.{StreamRow}
use Rattle.rtc_assoc_state.specs.Streams.{stream_of, put, reset_row, is_unclosed, is_closed_here, takes_messages}
use Rattle.rtc_assoc_state.specs.Inbox.{Inbox, bytes_so_far, with_bytes, without_part, without_messages, with_message, forgotten, message_of}
use Rattle.rtc_assoc_state.specs.Settling.{can_reset}
use Rattle.rtc_assoc_state.specs.Contents.{Contents}
use Rattle.rtc_assoc_state.specs.Calls.{sent, item_counted, more_kept, last_kept, finished, reset_told, close_came_at, close_came, part_came, item_put, item_taken, is_stray, with_stray}
use Rattle.rtc_assoc_state.proofs.RaiseLemmas.{stream_of-stream}
use Rattle.rtc_assoc.specs.Unread.{unread, IsPrefix}
use Rattle.rtc_assoc.proofs.MessageLemmas.{is_pair, pair_tells, message, messages, left, HasClose}
use Rattle.rtc_assoc.proofs.UnreadLemmas.{prefix_self, prefix_none, prefix_is, unread-with, unread-without, unread-forgotten, so_far-with, so_far-with_other, so_far-without_other, so_far-forgotten}
use Rattle.rtc_assoc.proofs.AliveLemmas.{alive, RowOf, takes-row, alive-put_as, alive-put_row, closed_not_own, reset-takes, Shut, shut-fewer, shut-dies, shut-own}

-- an end got some items, and these messages of each generation of each stream were read: what is kept of a generation
-- whose messages are still taken, and of one whose messages are not
pub record Gets (a : Inbox) (x : List StreamRow) (got : List Item) (reads : ℕ → ℕ → List AssociationMessage) (b : Inbox) (y : List StreamRow) : Type 0 where
  pub count : b.received ≡ a.received + length got
  pub fewer : (s g : ℕ) → alive y s g ≡ true → alive x s g ≡ true
  pub unread_is : (s g : ℕ) → alive y s g ≡ true → reads s g ++ unread s g b.unread ≡ unread s g a.unread ++ messages s g (bytes_so_far s g a.parts) got
  pub front_is : (s g : ℕ) → alive y s g ≡ true → bytes_so_far s g b.parts ≡ left s g (bytes_so_far s g a.parts) got
  pub gone : (s g : ℕ) → alive y s g ≡ false → IsPrefix (reads s g ++ unread s g b.unread) (unread s g a.unread)

abbrev pub no_reads : ℕ → ℕ → List AssociationMessage
no_reads s g = []

-- an end that takes messages of the same generations
pub gets_from : (a b : Inbox) (x z y : List StreamRow) (got : List Item) (reads : ℕ → ℕ → List AssociationMessage) → ((s g : ℕ) → alive z s g ≡ alive x s g) → Gets a z got reads b y → Gets a x got reads b y
gets_from a b x z y got reads e h = record { count = h.count; fewer = λ s g l. sym (e s g) ∙ h.fewer s g l; unread_is = h.unread_is; front_is = h.front_is; gone = h.gone }

pub gets_none : (a : Inbox) (x y : List StreamRow) → ((s g : ℕ) → alive y s g ≡ alive x s g) → Gets a x [] no_reads a y
gets_none a x y e = record {
  count = omega arith;
  fewer = λ s g l. sym (e s g) ∙ l;
  unread_is = λ s g l. sym (append-nil (unread s g a.unread));
  front_is = λ s g l. refl;
  gone = λ s g l. prefix_self (unread s g a.unread);
}

shown_by : (b : Bool) (xs : List AssociationMessage) → b ≡ false → cond b xs [] ≡ []
shown_by true xs e = absurd cc
shown_by false xs e = refl

abbrev nothing : List AssociationMessage
nothing = []

pub empty_either : (b : Bool) → cond b nothing nothing ≡ nothing
empty_either true = refl
empty_either false = refl

pub same_either : (b : Bool) (front : List ℕ) → cond b front front ≡ front
same_either true front = refl
same_either false front = refl

-- a piece with more to come
pub gets_more : (a : Inbox) (x y : List StreamRow) (id h i : ℕ) (bytes : List ℕ) → ((s g : ℕ) → alive y s g ≡ alive x s g) → Gets a x (piece id h More i bytes ∷ []) no_reads (record a { received = a.received + 1; parts = with_bytes id h bytes a.parts }) y
gets_more a x y id h i bytes e = record {
  count = refl;
  fewer = λ s g l. sym (e s g) ∙ l;
  unread_is = λ s g l. sym (ap (λ (l : List AssociationMessage). unread s g a.unread ++ (l ++ [])) (empty_either (is_pair id h s g)) ∙ append-nil (unread s g a.unread));
  front_is = λ s g l. elim (pair_tells id h s g) [
    | inl p ↦ rw p.0 (ap (λ k. bytes_so_far k g (with_bytes id h bytes a.parts)) (sym p.1) ∙ ap (λ k. bytes_so_far id k (with_bytes id h bytes a.parts)) (sym p.2) ∙ so_far-with id h bytes a.parts ∙ ap (λ k. bytes_so_far k h a.parts ++ bytes) p.1 ∙ ap (λ k. bytes_so_far s k a.parts ++ bytes) p.2)
    | inr p ↦ rw p.0 (so_far-with_other s g id h bytes a.parts p.1)
  ];
  gone = λ s g l. prefix_self (unread s g a.unread);
}

-- a last piece, which makes a whole message
pub gets_last : (a : Inbox) (x y : List StreamRow) (id h i : ℕ) (bytes : List ℕ) → alive x id h ≡ true → ((s g : ℕ) → alive y s g ≡ alive x s g) → Gets a x (piece id h Last i bytes ∷ []) no_reads (record a { received = a.received + 1; parts = without_part id h a.parts; unread = with_message (message_of (piece id h Last i bytes) (bytes_so_far id h a.parts ++ bytes)) a.unread }) y
gets_last a x y id h i bytes t e =
    let new = message_of (piece id h Last i bytes) (bytes_so_far id h a.parts ++ bytes) in
    record {
      count = refl;
      fewer = λ s g l. sym (e s g) ∙ l;
      unread_is = λ s g l. unread-with s g new a.unread ∙ elim (pair_tells id h s g) [
        | inl p ↦ rw p.0 (ap (λ k. unread s g a.unread ++ message i (bytes_so_far k h a.parts ++ bytes) ∷ []) p.1 ∙ ap (λ k. unread s g a.unread ++ message i (bytes_so_far s k a.parts ++ bytes) ∷ []) p.2)
        | inr p ↦ rw p.0 refl
      ];
      front_is = λ s g l. elim (pair_tells id h s g) [
        | inl p ↦ rw p.0 (ap (λ k. bytes_so_far k g (without_part id h a.parts)) (sym p.1) ∙ ap (λ k. bytes_so_far id k (without_part id h a.parts)) (sym p.2) ∙ so_far-forgotten id h a.parts)
        | inr p ↦ rw p.0 (so_far-without_other s g id h a.parts p.1)
      ];
      gone = λ s g l. elim (pair_tells id h s g) [
        | inl p ↦ absurd (let k : true ≡ false = sym t ∙ ap (λ k. alive x k h) p.1 ∙ ap (λ k. alive x s k) p.2 ∙ sym (e s g) ∙ l in cc)
        | inr p ↦ prefix_is (unread s g (with_message new a.unread)) (unread s g a.unread) (unread-with s g new a.unread ∙ rw p.0 (append-nil (unread s g a.unread)))
      ];
    }

-- a piece of a generation whose messages are not taken
pub gets_dropped : (a : Inbox) (x y : List StreamRow) (id h i : ℕ) (part : ItemPart) (bytes : List ℕ) → alive x id h ≡ false → ((s g : ℕ) → alive y s g ≡ alive x s g) → Gets a x (piece id h part i bytes ∷ []) no_reads (record a { received = a.received + 1 }) y
gets_dropped a x y id h i part bytes f e =
    let other : (s g : ℕ) → alive y s g ≡ true → is_pair id h s g ≡ false = λ s g l. elim (pair_tells id h s g) [
      | inl p ↦ absurd (let k : false ≡ true = sym f ∙ ap (λ k. alive x k h) p.1 ∙ ap (λ k. alive x s k) p.2 ∙ sym (e s g) ∙ l in cc)
      | inr p ↦ p.0
    ] in
    record {
      count = refl;
      fewer = λ s g l. sym (e s g) ∙ l;
      unread_is = λ s g l. let o = other s g l in rw o (sym (append-nil (unread s g a.unread)));
      front_is = λ s g l. let o = other s g l in rw o refl;
      gone = λ s g l. prefix_self (unread s g a.unread);
    }

-- a close that drops nothing
pub gets_close_kept : (a : Inbox) (x y : List StreamRow) (id h i : ℕ) (bytes : List ℕ) → ((s g : ℕ) → alive y s g ≡ alive x s g) → Gets a x (piece id h Close i bytes ∷ []) no_reads (record a { received = a.received + 1 }) y
gets_close_kept a x y id h i bytes e = record {
  count = refl;
  fewer = λ s g l. sym (e s g) ∙ l;
  unread_is = λ s g l. sym (ap (λ (l : List AssociationMessage). unread s g a.unread ++ (l ++ [])) (empty_either (is_pair id h s g)) ∙ append-nil (unread s g a.unread));
  front_is = λ s g l. sym (same_either (is_pair id h s g) (bytes_so_far s g a.parts));
  gone = λ s g l. prefix_self (unread s g a.unread);
}

-- a close that drops what is kept of its generation, whose messages are not taken any more
pub gets_close : (a : Inbox) (x y : List StreamRow) (id h i : ℕ) (bytes : List ℕ) → ((s g : ℕ) → alive y s g ≡ true → alive x s g ≡ true) → alive y id h ≡ false → Gets a x (piece id h Close i bytes ∷ []) no_reads (record (forgotten id h a) { received = a.received + 1 }) y
gets_close a x y id h i bytes e d =
    let other : (s g : ℕ) → alive y s g ≡ true → id ≡ s → h ≡ g → ⊥ = λ s g l p q. absurd (let k : false ≡ true = sym d ∙ ap (λ k. alive y k h) p ∙ ap (λ k. alive y s k) q ∙ l in cc) in
    record {
      count = refl;
      fewer = e;
      unread_is = λ s g l. unread-without s g id h a.unread (other s g l) ∙ sym (ap (λ (l : List AssociationMessage). unread s g a.unread ++ (l ++ [])) (empty_either (is_pair id h s g)) ∙ append-nil (unread s g a.unread));
      front_is = λ s g l. so_far-without_other s g id h a.parts (other s g l) ∙ sym (same_either (is_pair id h s g) (bytes_so_far s g a.parts));
      gone = λ s g l. elim (pair_tells id h s g) [
        | inl p ↦ subst (λ (l : List AssociationMessage). IsPrefix l (unread s g a.unread)) (sym (ap (λ k. unread s g (without_messages k h a.unread)) p.1 ∙ ap (λ k. unread s g (without_messages s k a.unread)) p.2 ∙ unread-forgotten s g a.unread)) (prefix_none (unread s g a.unread))
        | inr p ↦ prefix_is (unread s g (without_messages id h a.unread)) (unread s g a.unread) (unread-without s g id h a.unread p.1)
      ];
    }

-- items came, and others were sent behind those that are not acknowledged
pub record Arrives (p : Contents) (got more : List Item) (q : Contents) : Type 0 where
  pub acked : q.outbox.acked ≡ p.outbox.acked
  pub items : q.outbox.items ≡ p.outbox.items ++ more
  pub gets : Gets p.inbox p.streams got no_reads q.inbox q.streams
  pub silent : (s g : ℕ) → messages s g [] more ≡ []
  pub whole : (s g : ℕ) → left s g [] more ≡ []
  pub closes : (s g : ℕ) → HasClose s g more → HasClose s g got
  pub dies : (s g : ℕ) → alive q.streams s g ≡ false → (alive p.streams s g ≡ false) ⊎ HasClose s g got

arrives_quiet : (p q : Contents) (got : List Item) → q.outbox ≡ p.outbox → Gets p.inbox p.streams got no_reads q.inbox q.streams → ((s g : ℕ) → alive q.streams s g ≡ alive p.streams s g) → Arrives p got [] q
arrives_quiet p q got o h e = record {
  acked = ap (λ (b : _). b.acked) o;
  items = ap (λ (b : _). b.items) o ∙ sym (append-nil p.outbox.items);
  gets = h;
  silent = λ s g. refl;
  whole = λ s g. refl;
  closes = λ s g c. absurd c;
  dies = λ s g d. inl (sym (e s g) ∙ d);
}

pub arrives_none : (p : Contents) → Arrives p [] [] p
arrives_none p = arrives_quiet p p [] refl (gets_none p.inbox p.streams p.streams (λ s g. refl)) (λ s g. refl)

arrives_more : (id h i : ℕ) (bytes : List ℕ) (row : StreamRow) (p : Contents) → RowOf id row p.streams → Arrives p (piece id h More i bytes ∷ []) [] (more_kept (piece id h More i bytes) (item_counted row p))
unfolding more_kept item_counted
arrives_more id h i bytes row p r =
    let e = alive-put_row id row p.streams r in
    arrives_quiet p (more_kept (piece id h More i bytes) (item_counted row p)) (piece id h More i bytes ∷ []) refl (gets_more p.inbox p.streams (put row p.streams) id h i bytes e) e

arrives_last : (id h i : ℕ) (bytes : List ℕ) (row : StreamRow) (p : Contents) → RowOf id row p.streams → takes_messages row h ≡ true → Arrives p (piece id h Last i bytes ∷ []) [] (last_kept (piece id h Last i bytes) (item_counted row p))
unfolding last_kept item_counted
arrives_last id h i bytes row p r t =
    let e = alive-put_row id row p.streams r in
    arrives_quiet p (last_kept (piece id h Last i bytes) (item_counted row p)) (piece id h Last i bytes ∷ []) refl (gets_last p.inbox p.streams (put row p.streams) id h i bytes (sym (takes-row id row p.streams h r) ∙ t) e) e

arrives_dropped : (id h i : ℕ) (part : ItemPart) (bytes : List ℕ) (row : StreamRow) (p : Contents) → RowOf id row p.streams → takes_messages row h ≡ false → Arrives p (piece id h part i bytes ∷ []) [] (item_counted row p)
unfolding item_counted
arrives_dropped id h i part bytes row p r t =
    let e = alive-put_row id row p.streams r in
    arrives_quiet p (item_counted row p) (piece id h part i bytes ∷ []) refl (gets_dropped p.inbox p.streams (put row p.streams) id h i part bytes (sym (takes-row id row p.streams h r) ∙ t) e) e

arrives_skipped : (id h i : ℕ) (bytes : List ℕ) (row : StreamRow) (p : Contents) → RowOf id row p.streams → Arrives p (piece id h Close i bytes ∷ []) [] (item_counted row p)
unfolding item_counted
arrives_skipped id h i bytes row p r =
    let e = alive-put_row id row p.streams r in
    arrives_quiet p (item_counted row p) (piece id h Close i bytes ∷ []) refl (gets_close_kept p.inbox p.streams (put row p.streams) id h i bytes e) e

-- the close of a generation that this end closed before
arrives_again : (i : ℕ) (bytes : List ℕ) (row new : StreamRow) (p q : Contents) → is_closed_here row ≡ true → RowOf row.stream row p.streams → new.stream ≡ row.stream → ((g : ℕ) → takes_messages new g ≡ takes_messages row g) → q.outbox ≡ p.outbox → q.inbox ≡ record (forgotten row.stream row.generation p.inbox) { received = p.inbox.received + 1 } → q.streams ≡ put new p.streams → Arrives p (piece row.stream row.generation Close i bytes ∷ []) [] q
arrives_again i bytes row new p q c r n t o b z =
    let id = row.stream in
    let e : (s g : ℕ) → alive (put new p.streams) s g ≡ alive p.streams s g = alive-put_as id new p.streams n (λ g. t g ∙ takes-row id row p.streams g r) in
    let dead : alive p.streams id row.generation ≡ false = sym (takes-row id row p.streams row.generation r) ∙ closed_not_own row c in
    let gets : Gets p.inbox p.streams (piece id row.generation Close i bytes ∷ []) no_reads (record (forgotten id row.generation p.inbox) { received = p.inbox.received + 1 }) (put new p.streams) =
    gets_close p.inbox p.streams (put new p.streams) id row.generation i bytes (λ s g l. sym (e s g) ∙ l) (e id row.generation ∙ dead) in
    let P : Inbox → Type 0 = λ v. Gets p.inbox p.streams (piece id row.generation Close i bytes ∷ []) no_reads v (put new p.streams) in
    let Q : List StreamRow → Type 0 = λ v. Gets p.inbox p.streams (piece id row.generation Close i bytes ∷ []) no_reads q.inbox v in
    arrives_quiet p q (piece id row.generation Close i bytes ∷ []) o (subst Q (sym z) (subst P (sym b) gets)) (λ s g. ap (λ (v : List StreamRow). alive v s g) z ∙ e s g)

arrives_second : (i : ℕ) (bytes : List ℕ) (row : StreamRow) (p : Contents) → is_closed_here row ≡ true → RowOf row.stream row p.streams → Arrives p (piece row.stream row.generation Close i bytes ∷ []) [] (item_counted (record row { finished = true }) (finished row p))
unfolding item_counted finished
arrives_second i bytes row p c r = arrives_again i bytes row (record row { finished = true }) p (item_counted (record row { finished = true }) (finished row p)) c r refl (λ g. refl) refl refl refl

arrives_reset : (i : ℕ) (bytes : List ℕ) (row : StreamRow) (p : Contents) → is_closed_here row ≡ true → RowOf row.stream row p.streams → Arrives p (piece row.stream row.generation Close i bytes ∷ []) [] (reset_told row (item_counted (reset_row row) (finished row p)))
unfolding reset_told item_counted finished
arrives_reset i bytes row p c r = arrives_again i bytes row (reset_row row) p (reset_told row (item_counted (reset_row row) (finished row p))) c r refl (λ g. reset-takes row g c) refl refl refl

-- the close of a generation that this end closes now
closed_so : (s g t h i : ℕ) (bytes : List ℕ) → HasClose s g (close_of t h ∷ []) → HasClose s g (piece t h Close i bytes ∷ [])
closed_so s g t h i bytes (inl c) = inl (record { part_is = refl; stream_is = c.stream_is; generation_is = c.generation_is })
closed_so s g t h i bytes (inr c) = inr c

arrives_first : (now i : ℕ) (bytes : List ℕ) (row : StreamRow) (p : Contents) → RowOf row.stream row p.streams → Arrives p (piece row.stream row.generation Close i bytes ∷ []) (close_of row.stream row.generation ∷ []) (sent now (close_of row.stream row.generation ∷ []) (item_counted (record row { close = Queued; finished = true }) (finished row p)))
unfolding sent item_counted finished
arrives_first now i bytes row p r =
    let id = row.stream in
    let new : StreamRow = record row { close = Queued; finished = true } in
    let w : Shut id new p.streams = record { stream_is = refl; generation_is = r.generation_is; closed = refl } in
    record {
      acked = refl;
      items = refl;
      gets = gets_close p.inbox p.streams (put new p.streams) id row.generation i bytes (shut-fewer id new p.streams w) (shut-own id new p.streams w);
      silent = λ s g. ap (λ (l : List AssociationMessage). l ++ []) (empty_either (is_pair id row.generation s g));
      whole = λ s g. same_either (is_pair id row.generation s g) [];
      closes = λ s g c. closed_so s g id row.generation i bytes c;
      dies = λ s g d. elim (shut-dies id new p.streams w s g d) [
        | inl k ↦ inl k
        | inr k ↦ inr (inl (record { part_is = refl; stream_is = sym k.0; generation_is = sym k.1 }))
      ];
    }

closed_by : (row : StreamRow) (close : CloseState) → row.close ≡ close → is_unclosed close ≡ false → is_closed_here row ≡ true
closed_by row close e u = ap (λ (c : CloseState). not (is_unclosed c)) e ∙ ap not u

-- some items came, and some were sent
pub record Came (p : Contents) (q : Contents) (got : List Item) : Type 0 where
  pub more : List Item
  pub arrives : Arrives p got more q

came_last : (b : Bool) (i : ℕ) (bytes : List ℕ) (row : StreamRow) (p : Contents) → is_closed_here row ≡ true → RowOf row.stream row p.streams → Came p (cond b (reset_told row (item_counted (reset_row row) (finished row p))) (item_counted (record row { finished = true }) (finished row p))) (piece row.stream row.generation Close i bytes ∷ [])
came_last true i bytes row p c r = record { more = []; arrives = arrives_reset i bytes row p c r }
came_last false i bytes row p c r = record { more = []; arrives = arrives_second i bytes row p c r }

came_close_at : (close : CloseState) (now i : ℕ) (bytes : List ℕ) (row : StreamRow) (p : Contents) → row.close ≡ close → RowOf row.stream row p.streams → Came p (close_came_at close now row (finished row p)) (piece row.stream row.generation Close i bytes ∷ [])
came_close_at Unclosed now i bytes row p e r = record { more = close_of row.stream row.generation ∷ []; arrives = arrives_first now i bytes row p r }
came_close_at Queued now i bytes row p e r = record { more = []; arrives = arrives_second i bytes row p (closed_by row Queued e refl) r }
came_close_at Acknowledged now i bytes row p e r = came_last (can_reset row) i bytes row p (closed_by row Acknowledged e refl) r

came_close : (now id h i : ℕ) (bytes : List ℕ) (row : StreamRow) (p : Contents) → RowOf id row p.streams → Came p (close_came now h row p) (piece id h Close i bytes ∷ [])
came_close now id h i bytes row p r =
    elim (eqb_tells h row.generation) [
      | inl e ↦
          let own : RowOf row.stream row p.streams = subst (λ (k : ℕ). RowOf k row p.streams) (sym r.stream_is) r in
          let there : Came p (close_came_at row.close now row (finished row p)) (piece row.stream row.generation Close i bytes ∷ []) = came_close_at row.close now i bytes row p refl own in
          let P : ℕ → Type 0 = λ k. Came p (close_came_at row.close now row (finished row p)) (piece k row.generation Close i bytes ∷ []) in
          let Q : ℕ → Type 0 = λ k. Came p (close_came_at row.close now row (finished row p)) (piece id k Close i bytes ∷ []) in
          rw e.0 (subst Q (sym e.1) (subst P r.stream_is there))
      | inr e ↦ rw e.0 (record { more = []; arrives = arrives_skipped id h i bytes row p r })
    ]

came_more : (b : Bool) (id h i : ℕ) (bytes : List ℕ) (row : StreamRow) (p : Contents) → takes_messages row h ≡ b → RowOf id row p.streams → Came p (cond b (more_kept (piece id h More i bytes) (item_counted row p)) (item_counted row p)) (piece id h More i bytes ∷ [])
came_more true id h i bytes row p e r = record { more = []; arrives = arrives_more id h i bytes row p r }
came_more false id h i bytes row p e r = record { more = []; arrives = arrives_dropped id h i More bytes row p r e }

came_whole : (b : Bool) (id h i : ℕ) (bytes : List ℕ) (row : StreamRow) (p : Contents) → takes_messages row h ≡ b → RowOf id row p.streams → Came p (cond b (last_kept (piece id h Last i bytes) (item_counted row p)) (item_counted row p)) (piece id h Last i bytes ∷ [])
came_whole true id h i bytes row p e r = record { more = []; arrives = arrives_last id h i bytes row p r e }
came_whole false id h i bytes row p e r = record { more = []; arrives = arrives_dropped id h i Last bytes row p r e }

came_part : (part : ItemPart) (now id h i : ℕ) (bytes : List ℕ) (row : StreamRow) (p : Contents) → RowOf id row p.streams → Came p (part_came part now (piece id h part i bytes) row p) (piece id h part i bytes ∷ [])
came_part Close now id h i bytes row p r = came_close now id h i bytes row p r
came_part More now id h i bytes row p r = came_more (takes_messages row h) id h i bytes row p refl r
came_part Last now id h i bytes row p r = came_whole (takes_messages row h) id h i bytes row p refl r

there_row : (id : ℕ) (streams : List StreamRow) → RowOf id (record (stream_of id streams) { there = true }) streams
there_row id streams = record { stream_is = stream_of-stream id streams; generation_is = refl; close_is = refl }

-- what is remembered of an item is read nowhere
came_marked : (p q : Contents) (b : Bool) (got : List Item) → Came p q got → Came p (with_stray b q) got
came_marked p q b got h = record {
  more = h.more;
  arrives = record { acked = h.arrives.acked; items = h.arrives.items; gets = gets_marked p.inbox p.streams got no_reads q.inbox q.streams b h.arrives.gets; silent = h.arrives.silent; whole = h.arrives.whole; closes = h.arrives.closes; dies = h.arrives.dies };
}
  where
    gets_marked : (a : Inbox) (x : List StreamRow) (got : List Item) (reads : ℕ → ℕ → List AssociationMessage) (c : Inbox) (y : List StreamRow) (b : Bool) → Gets a x got reads c y → Gets a x got reads (record c { strayed = c.strayed || b }) y
    gets_marked a x got reads c y b h = record { count = h.count; fewer = h.fewer; unread_is = h.unread_is; front_is = h.front_is; gone = h.gone }

pub came_taken : (now : ℕ) (item : Item) (p : Contents) → Came p (item_taken now item p) (item ∷ [])
came_taken now item p = came_marked p (item_put now item p) (is_stray item p) (item ∷ []) (came_part item.part now item.stream item.generation item.identifier item.bytes (record (stream_of item.stream p.streams) { there = true }) p (there_row item.stream p.streams))
