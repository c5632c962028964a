-- Messages that stand unread at an end of the plain association are of generations that their streams had, or that they have and are there.
use Rattle.std.proofs.Common.{◌≡◌, ◌∙◌, ◌⊎◌, ◌+◌, ◌<◌, ◌≤◌, ◌++◌, ◌∷◌, ◌==◌, ◌&&◌, ◌||◌, inl, inr, not, nat_lt, cond, ℕ, Bool, true, false, true≢false, List, [], Option, Some, None, Result, refl, sym, ap, subst, arith}
use Rattle.std.specs.declared.alloc.AllocError.{AllocError}
use Rattle.std.proofs.lemmas.Bool.{eqb-true, or_parts}
use Rattle.rtc_parts.specs.declared.assoc_event.AssocEvent.TheVariants.{Connected}
use Rattle.rtc_parts.specs.AssociationActs.{AssociationAct, Given, Acted}
use Rattle.rtc_assoc_state.specs.declared.item.Item.{Item}
use Rattle.rtc_assoc_state.specs.declared.item_part.ItemPart.{ItemPart}
use Rattle.rtc_assoc_state.specs.declared.item_part.ItemPart.TheVariants.{More, Last, Close}
use Rattle.rtc_assoc_state.specs.declared.frame.Frame.{Frame}
use Rattle.rtc_assoc_state.specs.declared.frame.Frame.TheVariants.{Hello, Welcome, Data, Acknowledgement, Shutdown}
use Rattle.rtc_assoc_state.specs.Packets.{frame_in}
use Rattle.rtc_assoc_state.specs.Pieces.{close_of}
use Rattle.rtc_assoc_state.specs.declared.close_state.CloseState.{CloseState}
use Rattle.rtc_assoc_state.specs.declared.close_state.CloseState.TheVariants.{Unclosed, Queued, Acknowledged}
use Rattle.rtc_assoc_state.specs.declared.stream_row.StreamRow.{StreamRow}
use Rattle.rtc_assoc_state.specs.Contents.{Contents, generation_of, has_unread, is_ending, is_server}
use Rattle.rtc_assoc_state.specs.Streams.{stream_of, put, reset_row, takes_messages}
use Rattle.rtc_assoc_state.specs.Inbox.{bytes_so_far, is_message_of, message_of}
use Rattle.rtc_assoc_state.specs.Settling.{can_reset}
use Rattle.rtc_assoc_state.specs.Calls.{sent, greeted, welcomed, acknowledged, item_counted, more_kept, last_kept, piece_kept, finished, reset_told, close_came_at, part_came, item_put, item_taken, is_stray, item_came, answered, lost, framed, at_moment, half_taken}
use Rattle.rtc_assoc_state.specs.PlainMeaning.{Gives, plain_meaning}
use Rattle.rtc_assoc_state.proofs.DoesLemmas.{gives}
use Rattle.rtc_assoc_state.proofs.RaiseLemmas.{stream_of-put, stream_of-stream}
use Rattle.rtc_assoc_state.proofs.ReadableLemmas.{any-filter, any-with}
use Rattle.rtc_sctp_laws.proofs.GoingEnds.{EndGoes, goes_given}
use Rattle.rtc_sctp_laws.proofs.KnownStreams.{AreBacked, IsBackedBy, UnreadLaws}
use Rattle.rtc_sctp_laws.proofs.PlainGenerations.{stays_act}
use Rattle.rtc_sctp_laws.proofs.RowsGo.{RowStays}

-- no item was taken of another generation than its stream had
abbrev pub plain_sound : Contents → Type 0
plain_sound p = p.inbox.strayed ≡ false

-- no more stands unread
abbrev Fewer : Contents → Contents → Type 0
Fewer p q = (s g : ℕ) → has_unread q s g ≡ true → has_unread p s g ≡ true

-- what stands unread stood so before, or is of a generation that the stream had, or that it has and is there
abbrev Brings : Contents → Contents → Type 0
Brings p q = (s g : ℕ) → has_unread q s g ≡ true → (has_unread p s g ≡ true) ⊎ IsBackedBy plain_meaning plain_sound q s g

none_brought : (p q : Contents) → Fewer p q → Brings p q
none_brought p q h = λ s g k. inl (h s g k)

both_true : (a b : Bool) → (a && b) ≡ true → (a ≡ true) × (b ≡ true)
both_true true true h = (refl, refl)
both_true true false h = absurd (true≢false (sym h))
both_true false b h = absurd (true≢false (sym h))

neither : (a b : Bool) → not (a || b) ≡ true → b ≡ false
neither true b h = absurd (true≢false (sym h))
neither false true h = absurd (true≢false (sym h))
neither false false h = refl

-- ---- steps that bring nothing

fewer_counted : (row : StreamRow) (p : Contents) → Fewer p (item_counted row p)
unfolding item_counted
fewer_counted row p = λ s g h. h

fewer_more : (item : Item) (p : Contents) → Fewer p (more_kept item p)
unfolding more_kept
fewer_more item p = λ s g h. h

fewer_finished : (row : StreamRow) (p : Contents) → Fewer p (finished row p)
unfolding finished
fewer_finished row p = λ s g h. any-filter (is_message_of s g) (λ m. not (is_message_of row.stream row.generation m)) p.inbox.unread h

fewer_sent : (now : ℕ) (items : List Item) (p : Contents) → Fewer p (sent now items p)
unfolding sent
fewer_sent now items p = λ s g h. h

fewer_told : (row : StreamRow) (p : Contents) → Fewer p (reset_told row p)
unfolding reset_told
fewer_told row p = λ s g h. h

fewer_then : (row new : StreamRow) (p : Contents) → Fewer p (item_counted new (finished row p))
fewer_then row new p = λ s g h. fewer_finished row p s g (fewer_counted new (finished row p) s g h)

fewer_reset : (b : Bool) (row : StreamRow) (p : Contents)
    → Fewer p (cond b (reset_told row (item_counted (reset_row row) (finished row p))) (item_counted (record row { finished = true }) (finished row p)))
fewer_reset true row p =
    λ s g h. fewer_then row (reset_row row) p s g (fewer_told row (item_counted (reset_row row) (finished row p)) s g h)
fewer_reset false row p = fewer_then row (record row { finished = true }) p

fewer_close_at : (close : CloseState) (now : ℕ) (row : StreamRow) (p : Contents) → Fewer p (close_came_at close now row (finished row p))
fewer_close_at Unclosed now row p =
    let new : StreamRow = record row { close = Queued; finished = true } in
    λ s g h.
    fewer_then row new p s g (fewer_sent now (close_of row.stream row.generation ∷ []) (item_counted new (finished row p)) s g h)
fewer_close_at Queued now row p = fewer_then row (record row { finished = true }) p
fewer_close_at Acknowledged now row p = fewer_reset (can_reset row) row p

fewer_close : (b : Bool) (now : ℕ) (row : StreamRow) (p : Contents)
    → Fewer p (cond b (close_came_at row.close now row (finished row p)) (item_counted row p))
fewer_close true now row p = fewer_close_at row.close now row p
fewer_close false now row p = fewer_counted row p

fewer_front : (number : ℕ) (p : Contents) → Fewer p (acknowledged number (greeted p))
unfolding acknowledged greeted
fewer_front number p = λ s g h. h

fewer_welcomed : (p : Contents) → Fewer p (welcomed p)
unfolding welcomed
fewer_welcomed p = by (is_server p.standing.role)
  where
    by : (b : Bool) → Fewer p (cond b (record p { standing = record p.standing { connected = true }; events = p.events ++ (cond p.standing.connected [] (Connected ∷ [])); packets = p.packets ++ (2 ∷ []) ∷ [] }) p)
    by true = λ s g h. h
    by false = λ s g h. h

fewer_greeted : (p : Contents) → Fewer p (greeted p)
unfolding greeted
fewer_greeted p = λ s g h. h

fewer_acknowledged : (number : ℕ) (p : Contents) → Fewer p (acknowledged number p)
unfolding acknowledged
fewer_acknowledged number p = λ s g h. h

fewer_lost : (p : Contents) → Fewer p (lost p)
unfolding lost
fewer_lost p = λ s g h. h

-- ---- the last piece of a message

-- a stream that has a row which is there
backed_row : (row : StreamRow) (rows : List StreamRow) (s g : ℕ) → row.stream ≡ s → row.there ≡ true → g ≤ row.generation
    → (g < (stream_of s (put row rows)).generation) ⊎ ((g ≡ (stream_of s (put row rows)).generation) × ((stream_of s (put row rows)).there ≡ true))
backed_row row rows s g same there le = by (nat_lt g row.generation) refl
  where
    is : stream_of s (put row rows) ≡ row
    is = ap (λ (n : ℕ). stream_of n (put row rows)) (sym same) ∙ stream_of-put row rows

    by : (b : Bool) → nat_lt g row.generation ≡ b
        → (g < (stream_of s (put row rows)).generation) ⊎ ((g ≡ (stream_of s (put row rows)).generation) × ((stream_of s (put row rows)).there ≡ true))
    by true e =
        let lt : g < row.generation = grind (arith, e) in
        inl (subst (λ (r : StreamRow). g < r.generation) (sym is) lt)
    by false e =
        let up : row.generation ≤ g = grind (arith, e) in
        let own : g ≡ row.generation = omega (arith, up, le) in
        inr (own ∙ ap (λ (r : StreamRow). r.generation) (sym is), ap (λ (r : StreamRow). r.there) is ∙ there)

brings_last : (item : Item) (row : StreamRow) (p : Contents) → row.stream ≡ item.stream → row.there ≡ true → item.generation ≤ row.generation
    → Brings p (last_kept item (item_counted row p))
unfolding last_kept item_counted
brings_last item row p same there le = λ s g h. by s g (any-with (is_message_of s g) p.inbox.unread (message_of item (bytes_so_far item.stream item.generation p.inbox.parts ++ item.bytes)) h)
  where
    by : (s g : ℕ) → (has_unread p s g ≡ true) ⊎ (((item.stream == s) && (item.generation == g)) ≡ true)
        → (has_unread p s g ≡ true) ⊎ IsBackedBy plain_meaning plain_sound (last_kept item (item_counted row p)) s g
    by s g (inl before) = inl before
    by s g (inr own) =
        let two = both_true (item.stream == s) (item.generation == g) own in
        let at : row.stream ≡ s = same ∙ eqb-true item.stream s two.0 in
        let of : item.generation ≡ g = eqb-true item.generation g two.1 in
        inr (backed_row row p.streams s g at there (subst (λ (n : ℕ). n ≤ row.generation) of le))

brings_piece : (b : Bool) (item : Item) (row : StreamRow) (p : Contents) → row.stream ≡ item.stream → row.there ≡ true
    → item.generation ≤ row.generation → Brings p (cond b (last_kept item (item_counted row p)) (item_counted row p))
brings_piece true item row p same there le = brings_last item row p same there le
brings_piece false item row p same there le = none_brought p (item_counted row p) (fewer_counted row p)

brings_more : (b : Bool) (item : Item) (row : StreamRow) (p : Contents) → Brings p (cond b (more_kept item (item_counted row p)) (item_counted row p))
brings_more true item row p =
    none_brought p (more_kept item (item_counted row p)) (λ s g h. fewer_counted row p s g (fewer_more item (item_counted row p) s g h))
brings_more false item row p = none_brought p (item_counted row p) (fewer_counted row p)

brings_part : (part : ItemPart) (now : ℕ) (item : Item) (row : StreamRow) (p : Contents) → item.part ≡ part → row.stream ≡ item.stream
    → row.there ≡ true → item.generation ≤ row.generation → Brings p (part_came part now item row p)
brings_part Close now item row p is same there le =
    none_brought p (part_came Close now item row p) (fewer_close (item.generation == row.generation) now row p)
brings_part More now item row p is same there le =
    subst (λ (x : ItemPart). Brings p (cond (takes_messages row item.generation) (piece_kept x item (item_counted row p)) (item_counted row p))) (sym is)
    (brings_more (takes_messages row item.generation) item row p)
brings_part Last now item row p is same there le =
    subst (λ (x : ItemPart). Brings p (cond (takes_messages row item.generation) (piece_kept x item (item_counted row p)) (item_counted row p))) (sym is)
    (brings_piece (takes_messages row item.generation) item row p same there le)

brings_put_item : (now : ℕ) (item : Item) (p : Contents) → item.generation ≤ generation_of p item.stream → Brings p (item_put now item p)
brings_put_item now item p le =
    brings_part item.part now item (record (stream_of item.stream p.streams) { there = true }) p refl (stream_of-stream item.stream p.streams) refl le

brings_item : (now : ℕ) (item : Item) (p : Contents) → item.generation ≤ generation_of p item.stream → Brings p (item_taken now item p)
brings_item now item p le = λ s g h. brings_put_item now item p le s g h

-- an item that is not a stray
unnot : (b : Bool) → not b ≡ false → b ≡ true
unnot true e = refl
unnot false e = sym e

pub not_stray : (item : Item) (p : Contents) → is_stray item p ≡ false → item.generation ≡ generation_of p item.stream
not_stray item p none = eqb-true item.generation (generation_of p item.stream) (unnot (item.generation == generation_of p item.stream) none)

brings_if : (b : Bool) (now : ℕ) (item : Item) (p : Contents) → plain_sound (cond b (item_taken now item p) p) → Brings p (cond b (item_taken now item p) p)
brings_if true now item p ok =
    let same = not_stray item p (or_parts (item_put now item p).inbox.strayed (is_stray item p) ok).1 in
    brings_item now item p (omega (arith, same))
brings_if false now item p ok = λ s g h. inl h

brings_came : (now number : ℕ) (item : Item) (p : Contents) → plain_sound (item_came now number item p) → Brings p (item_came now number item p)
unfolding item_came
brings_came now number item p ok = brings_if ((number == p.inbox.received + 1) && not (is_ending p)) now item p ok

-- ---- packets

-- an acknowledgement of what came, and the moment, bring nothing
brings_answered : (now : ℕ) (p q : Contents) → Brings p q → Brings p (at_moment now (answered q))
unfolding answered at_moment
brings_answered now p q h = h

fewer_moment : (now : ℕ) (p q : Contents) → Fewer p q → Brings p (at_moment now q)
unfolding at_moment
fewer_moment now p q h = none_brought p q h

sound_answered : (now : ℕ) (q : Contents) → plain_sound (at_moment now (answered q)) → plain_sound q
unfolding answered at_moment
sound_answered now q ok = ok

brings_data : (now n number : ℕ) (item : Item) (p : Contents) → plain_sound (at_moment now (framed now (Some (Data n number item)) p)) → Brings p (at_moment now (framed now (Some (Data n number item)) p))
brings_data now n number item p ok =
    brings_answered now p (item_came now number item (acknowledged n (greeted p)))
    (λ s g h. before s g (brings_came now number item (acknowledged n (greeted p)) (sound_answered now (item_came now number item (acknowledged n (greeted p))) ok) s g h))
  where
    before : (s g : ℕ)
        → (has_unread (acknowledged n (greeted p)) s g ≡ true) ⊎ IsBackedBy plain_meaning plain_sound (item_came now number item (acknowledged n (greeted p))) s g
        → (has_unread p s g ≡ true) ⊎ IsBackedBy plain_meaning plain_sound (item_came now number item (acknowledged n (greeted p))) s g
    before s g (inl k) = inl (fewer_front n p s g k)
    before s g (inr k) = inr k

brings_framed : (now : ℕ) (f : Option Frame) (p : Contents) → plain_sound (at_moment now (framed now f p)) → Brings p (at_moment now (framed now f p))
brings_framed now None p ok = fewer_moment now p p (λ s g h. h)
brings_framed now (Some Hello) p ok = fewer_moment now p (welcomed p) (fewer_welcomed p)
brings_framed now (Some Welcome) p ok = fewer_moment now p (greeted p) (fewer_greeted p)
brings_framed now (Some (Data n number item)) p ok = brings_data now n number item p ok
brings_framed now (Some (Acknowledgement n)) p ok = fewer_moment now p (acknowledged n p) (fewer_acknowledged n p)
brings_framed now (Some Shutdown) p ok = fewer_moment now p (lost p) (fewer_lost p)

brings_half : (f : Option Frame) (p : Contents) → Brings p (half_taken f p)
brings_half None p = λ s g h. inl h
brings_half (Some Hello) p = λ s g h. inl h
brings_half (Some Welcome) p = λ s g h. inl h
brings_half (Some (Data n number item)) p = none_brought p (acknowledged n (greeted p)) (fewer_front n p)
brings_half (Some (Acknowledgement n)) p = λ s g h. inl h
brings_half (Some Shutdown) p = λ s g h. inl h

brings_given : (p q : Contents) (now : ℕ) (bytes : List ℕ) (r : Result (Unit {0}) AllocError) → Gives p now bytes r q → plain_sound q → Brings p q
brings_given p q now bytes r h =
    gives (λ x. plain_sound x → Brings p x) p q now bytes r (λ ok s g k. inl k) (λ ok. brings_half (frame_in bytes) p) (λ ok. brings_framed now (frame_in bytes) p ok) h

-- ---- acts

record Went (p q : Contents) : Type 0 where
  goes : EndGoes p q
  brings : plain_sound q → Brings p q

went_by : (p q : Contents) (act : AssociationAct) → Acted plain_meaning p act q → Went p q
went_by p q (Given bytes) h = record { goes = goes_given p q h.0 bytes h.1.0 h.1.1; brings = λ ok. brings_given p q h.0 bytes h.1.0 h.1.1 ok }
went_by p q act h = let k = stays_act p q act refl h in record { goes = k.goes; brings = λ ok. none_brought p q k.fewer }

sound_before : (p q : Contents) → EndGoes p q → plain_sound q → plain_sound p
sound_before p q goes ok = by p.inbox.strayed refl
  where
    by : (b : Bool) → p.inbox.strayed ≡ b → p.inbox.strayed ≡ false
    by true e = absurd (true≢false (sym (goes.strayed e) ∙ ok))
    by false e = e

backed_act : (p q : Contents) (act : AssociationAct) → Acted plain_meaning p act q → AreBacked plain_meaning plain_sound p → AreBacked plain_meaning plain_sound q
backed_act p q act h backed = λ ok s g k. by ok s g (went.brings ok s g k)
  where
    went : Went p q
    went = went_by p q act h

    on : (s g : ℕ) → IsBackedBy plain_meaning plain_sound p s g
        → RowStays (stream_of s p.streams) (stream_of s q.streams) ⊎ ((stream_of s p.streams).generation < (stream_of s q.streams).generation)
        → IsBackedBy plain_meaning plain_sound q s g
    on s g (inl lt) (inl stays) =
        let same : (stream_of s q.streams).generation ≡ (stream_of s p.streams).generation = stays.generation_is in
        inl (omega (arith, lt, same))
    on s g (inl lt) (inr up) = inl (omega (arith, lt, up))
    on s g (inr own) (inl stays) = inr (own.0 ∙ sym stays.generation_is, stays.there own.1)
    on s g (inr own) (inr up) = let same : g ≡ (stream_of s p.streams).generation = own.0 in inl (omega (arith, same, up))

    by : plain_sound q → (s g : ℕ) → (has_unread p s g ≡ true) ⊎ IsBackedBy plain_meaning plain_sound q s g → IsBackedBy plain_meaning plain_sound q s g
    by ok s g (inl before) = on s g (backed (sound_before p q went.goes ok) s g before) (went.goes.rows.each s).goes
    by ok s g (inr k) = k

pub plain_unread : UnreadLaws plain_meaning plain_sound
plain_unread = record {
  before = λ a b act h ok. sound_before a b (Went.goes (went_by a b act h)) ok;
  backed = backed_act;
  fewer = λ a b act g h. (stays_act a b act g h).fewer;
}
