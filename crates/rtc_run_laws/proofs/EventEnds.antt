-- Events of a kind stay of that kind, by acts without a packet and by packets that bring no item.
use Rattle.std.proofs.Common.{◌≡◌, ◌∙◌, ◌⊎◌, inl, inr, ◌+◌, ◌++◌, ◌∷◌, ◌&&◌, ◌||◌, not, cond, zero, suc, ℕ, Bool, true, false, true≢false, List, [], Option, Some, None, Result, refl, sym, ap, subst}
use Rattle.std.specs.declared.alloc.AllocError.{AllocError}
use Rattle.rtc_parts.specs.declared.assoc_event.AssocEvent.{AssocEvent}
use Rattle.rtc_parts.specs.declared.assoc_event.AssocEvent.TheVariants.{Connected, Lost, ResetComplete, BufferedAmountLow}
use Rattle.rtc_assoc_state.specs.declared.item.Item.{Item}
use Rattle.rtc_assoc_state.specs.declared.item_part.ItemPart.{ItemPart}
use Rattle.rtc_assoc_state.specs.declared.item_part.ItemPart.TheVariants.{More, Last, Close}
use Rattle.rtc_assoc_state.specs.declared.frame.Frame.{Frame}
use Rattle.rtc_assoc_state.specs.declared.frame.Frame.TheVariants.{Hello, Welcome, Data, Acknowledgement, Shutdown}
use Rattle.rtc_assoc_state.specs.Packets.{frame_in}
use Rattle.rtc_assoc_state.specs.declared.close_state.CloseState.{CloseState}
use Rattle.rtc_assoc_state.specs.declared.close_state.CloseState.TheVariants.{Unclosed, Queued, Acknowledged}
use Rattle.rtc_assoc_state.specs.declared.stream_row.StreamRow.{StreamRow}
use Rattle.rtc_assoc_state.specs.Contents.{Contents, is_client, is_server, waits}
use Rattle.rtc_assoc_state.specs.Streams.{put, reset_row, stream_of}
use Rattle.rtc_assoc_state.specs.Outbox.{bytes_for, buffered, settled_count}
use Rattle.rtc_assoc_state.specs.Settling.{Told, told_of, can_reset, close_settled, item_settled, part_settled, reaches, settled}
use Rattle.rtc_assoc_state.specs.Calls.{greeted, welcomed, acknowledged, answered, lost, framed, at_moment, half_taken}
use Rattle.rtc_assoc_state.specs.PlainMeaning.{Gives}
use Rattle.rtc_assoc_state.proofs.DoesLemmas.{gives}
use Rattle.rtc_run_laws.proofs.EndReports.{Reports, connected_acknowledged, connected_answered, connected_moment, is_connected, none_came}

module _ (ok : AssocEvent → Type 0) where
  -- each event is so
  abbrev pub AreEvents : List AssocEvent → Type 0
  AreEvents [] = Unit {0}
  AreEvents (e ∷ events) = ok e × AreEvents events

  events_append : (xs ys : List AssocEvent) → AreEvents xs → AreEvents ys → AreEvents (xs ++ ys)
  events_append [] ys h k = k
  events_append (e ∷ xs) ys h k = (h.0, events_append xs ys h.1 k)

  -- the first of them, and the others
  pub events_rest : (e : AssocEvent) (events rest : List AssocEvent) → events ≡ e ∷ rest → AreEvents events → ok e × AreEvents rest
  events_rest e events rest is h = subst AreEvents is h

  pub events_on : (p q : Contents) → Reports p q → AreEvents p.events → AreEvents q.events
  events_on p q h k = by h.events
    where
      by : (q.events ≡ p.events) ⊎ ((e : AssocEvent) × (p.events ≡ e ∷ q.events)) → AreEvents q.events
      by (inl same) = subst AreEvents (sym same) k
      by (inr told) = (events_rest told.0 p.events q.events told.1 k).1

  module _ (losing : ok Lost) (resets : (n : ℕ) → ok (ResetComplete n)) (lows : (n : ℕ) → ok (BufferedAmountLow n)) where
    low : (b : Bool) (n : ℕ) (t : Told) → AreEvents t.events
        → AreEvents (cond b (told_of t.streams (t.events ++ BufferedAmountLow n ∷ [])) t).events
    low true n t h = events_append t.events (BufferedAmountLow n ∷ []) h (lows n, tt)
    low false n t h = h

    queued : (b : Bool) (row : StreamRow) (t : Told) → AreEvents t.events
        → AreEvents (cond b (told_of (put (reset_row row) t.streams) (t.events ++ ResetComplete row.stream ∷ [])) (told_of (put (record row { close = Acknowledged }) t.streams) t.events)).events
    queued true row t h = events_append t.events (ResetComplete row.stream ∷ []) h (resets row.stream, tt)
    queued false row t h = h

    close : (state : CloseState) (row : StreamRow) (t : Told) → AreEvents t.events → AreEvents (close_settled state row t).events
    close Unclosed row t h = h
    close Queued row t h = queued (row.finished && can_reset row) row t h
    close Acknowledged row t h = h

    part : (p : ItemPart) (item : Item) (behind : List Item) (t : Told) → AreEvents t.events
        → AreEvents (part_settled p item (stream_of item.stream t.streams) behind t).events
    part Close item behind t h = close (stream_of item.stream t.streams).close (stream_of item.stream t.streams) t h
    part More item behind t h =
        low (reaches (stream_of item.stream t.streams).threshold (bytes_for item.stream item + buffered item.stream behind) (buffered item.stream behind))
        item.stream t h
    part Last item behind t h =
        low (reaches (stream_of item.stream t.streams).threshold (bytes_for item.stream item + buffered item.stream behind) (buffered item.stream behind))
        item.stream t h

    one_settled : (item : Item) (behind : List Item) (t : Told) → AreEvents t.events → AreEvents (item_settled item behind t).events
    unfolding item_settled
    one_settled item behind t h = part item.part item behind t h

    all_settled : (count : ℕ) (items : List Item) (t : Told) → AreEvents t.events → AreEvents (settled count items t).events
    all_settled zero items t h = h
    all_settled (suc count) [] t h = h
    all_settled (suc count) (item ∷ items) t h = all_settled count items (item_settled item items t) (one_settled item items t h)

    events_acknowledged : (n : ℕ) (p : Contents) → AreEvents p.events → AreEvents (acknowledged n p).events
    unfolding acknowledged
    events_acknowledged n p h = all_settled (settled_count n p.outbox) p.outbox.items (told_of p.streams p.events) h

    -- that it is connected is reported only if it was not
    if_said : (b : Bool) (events : List AssocEvent) → (b ≡ true → ok Connected) → AreEvents events → AreEvents (events ++ cond b (Connected ∷ []) [])
    if_said true events says h = events_append events (Connected ∷ []) h (says refl, tt)
    if_said false events says h = events_append events [] h tt

    unless_said : (b : Bool) (events : List AssocEvent) → (b ≡ false → ok Connected) → AreEvents events → AreEvents (events ++ cond b [] (Connected ∷ []))
    unless_said true events says h = events_append events [] h tt
    unless_said false events says h = events_append events (Connected ∷ []) h (says refl, tt)

    -- such an event is of the kind, or it is connected as it was
    abbrev Alike : Contents → Contents → Type 0
    Alike p q = ok Connected ⊎ (is_connected q ≡ is_connected p)

    alike_on : (p q r : Contents) → is_connected q ≡ is_connected r → Alike p q → Alike p r
    alike_on p q r same (inl k) = inl k
    alike_on p q r same (inr k) = inr (sym same ∙ k)

    greets_none : (client before : Bool) → (client && not before) ≡ true → (before || client) ≡ before → ⊥
    greets_none true true h same = true≢false (sym h)
    greets_none true false h same = true≢false same
    greets_none false before h same = true≢false (sym h)

    events_greeted : (p : Contents) → Alike p (greeted p) → AreEvents p.events → AreEvents (greeted p).events
    unfolding greeted
    events_greeted p alike h = if_said (waits p.standing) p.events (λ w. by w alike) h
      where
        by : waits p.standing ≡ true → ok Connected ⊎ ((p.standing.connected || is_client p.standing.role) ≡ p.standing.connected) → ok Connected
        by w (inl k) = k
        by w (inr same) = absurd (greets_none (is_client p.standing.role) p.standing.connected w same)

    events_welcomed : (p : Contents) → Alike p (welcomed p) → AreEvents p.events → AreEvents (welcomed p).events
    unfolding welcomed
    events_welcomed p alike h = by (is_server p.standing.role) alike
      where
        says : ok Connected ⊎ (true ≡ p.standing.connected) → p.standing.connected ≡ false → ok Connected
        says (inl k) e = k
        says (inr same) e = absurd (true≢false (same ∙ e))

        by : (b : Bool)
            → ok Connected ⊎ (is_connected (cond b (record p { standing = record p.standing { connected = true }; events = p.events ++ (cond p.standing.connected [] (Connected ∷ [])); packets = p.packets ++ (2 ∷ []) ∷ [] }) p) ≡ p.standing.connected)
            → AreEvents (cond b (record p { standing = record p.standing { connected = true }; events = p.events ++ (cond p.standing.connected [] (Connected ∷ [])); packets = p.packets ++ (2 ∷ []) ∷ [] }) p).events
        by true a = unless_said p.standing.connected p.events (λ e. says a e) h
        by false a = h

    events_lost : (p : Contents) → AreEvents p.events → AreEvents (lost p).events
    unfolding lost
    events_lost p h = events_append p.events (Lost ∷ []) h (losing, tt)

    events_moment : (now : ℕ) (p : Contents) → AreEvents p.events → AreEvents (at_moment now p).events
    unfolding at_moment
    events_moment now p h = h

    events_answered : (p : Contents) → AreEvents p.events → AreEvents (answered p).events
    unfolding answered
    events_answered p h = h

    front_events : (n : ℕ) (p : Contents) → Alike p (acknowledged n (greeted p)) → AreEvents p.events → AreEvents (acknowledged n (greeted p)).events
    front_events n p alike h =
        events_acknowledged n (greeted p)
        (events_greeted p (alike_on p (acknowledged n (greeted p)) (greeted p) (connected_acknowledged n (greeted p)) alike) h)

    events_framed : (now : ℕ) (f : Option Frame) (p : Contents) → (at_moment now (framed now f p)).inbox.received ≡ p.inbox.received
        → Alike p (framed now f p) → AreEvents p.events → AreEvents (framed now f p).events
    events_framed now None p same alike h = h
    events_framed now (Some Hello) p same alike h = events_welcomed p alike h
    events_framed now (Some Welcome) p same alike h = events_greeted p alike h
    events_framed now (Some (Data n number item)) p same alike h =
        subst (λ (x : Contents). AreEvents x.events) (sym (none_came now n number item p same))
        (events_answered (acknowledged n (greeted p))
        (front_events n p
        (alike_on p (framed now (Some (Data n number item)) p) (acknowledged n (greeted p))
        (ap is_connected (none_came now n number item p same) ∙ connected_answered (acknowledged n (greeted p))) alike)
        h))
    events_framed now (Some (Acknowledgement n)) p same alike h = events_acknowledged n p h
    events_framed now (Some Shutdown) p same alike h = events_lost p h

    events_half : (f : Option Frame) (p : Contents) → Alike p (half_taken f p) → AreEvents p.events → AreEvents (half_taken f p).events
    events_half None p alike h = h
    events_half (Some Hello) p alike h = h
    events_half (Some Welcome) p alike h = h
    events_half (Some (Data n number item)) p alike h = front_events n p alike h
    events_half (Some (Acknowledgement n)) p alike h = h
    events_half (Some Shutdown) p alike h = h

    -- by a packet that brings no item
    pub given_events : (p q : Contents) (now : ℕ) (bytes : List ℕ) (r : Result (Unit {0}) AllocError) → Gives p now bytes r q
        → q.inbox.received ≡ p.inbox.received → ok Connected ⊎ (is_connected q ≡ is_connected p) → AreEvents p.events → AreEvents q.events
    given_events p q now bytes r h =
        gives (λ x. x.inbox.received ≡ p.inbox.received → Alike p x → AreEvents p.events → AreEvents x.events) p q now bytes r (λ same alike k. k)
        (λ same alike k. events_half (frame_in bytes) p alike k)
        (λ same alike k.
        events_moment now (framed now (frame_in bytes) p)
        (events_framed now (frame_in bytes) p same
        (alike_on p (at_moment now (framed now (frame_in bytes) p)) (framed now (frame_in bytes) p)
        (connected_moment now (framed now (frame_in bytes) p)) alike)
        k))
        h
