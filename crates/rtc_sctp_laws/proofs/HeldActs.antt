-- What acts leave of the streams of the plain association.
use Rattle.std.proofs.Common.{◌≡◌, ◌∙◌, ◌⊎◌, ◌+◌, ◌<◌, ◌≤◌, ◌++◌, ◌∷◌, ◌==◌, ◌&&◌, ◌||◌, inl, inr, not, cond, ℕ, Bool, true, false, true≢false, List, [], Option, Some, None, Result, refl, sym, ap, subst, arith}
use Rattle.std.specs.declared.alloc.AllocError.{AllocError}
use Rattle.std.proofs.lemmas.Bool.{eqb-true, eqb-false, ne_eqb, or_parts}
use Rattle.rtc_parts.specs.declared.assoc_event.AssocEvent.TheVariants.{Connected}
use Rattle.rtc_assoc_state.specs.declared.item.Item.{Item}
use Rattle.rtc_assoc_state.specs.declared.frame.Frame.{Frame}
use Rattle.rtc_assoc_state.specs.declared.frame.Frame.TheVariants.{Hello, Welcome, Data, Acknowledgement, Shutdown}
use Rattle.rtc_assoc_state.specs.Packets.{frame_in}
use Rattle.rtc_assoc_state.specs.declared.close_state.CloseState.TheVariants.{Queued}
use Rattle.rtc_assoc_state.specs.declared.stream_row.StreamRow.{StreamRow}
use Rattle.rtc_assoc_state.specs.Contents.{Contents, closed_here, generation_of, has_stream, is_ending, is_server}
use Rattle.rtc_assoc_state.specs.Streams.{stream_of, put, is_closed_here}
use Rattle.rtc_assoc_state.specs.Calls.{sent, greeted, welcomed, acknowledged, item_put, item_taken, is_stray, item_came, answered, lost, framed, at_moment, half_taken}
use Rattle.rtc_assoc_state.specs.PlainMeaning.{Gives}
use Rattle.rtc_assoc_state.proofs.DoesLemmas.{gives}
use Rattle.rtc_assoc_state.proofs.RaiseLemmas.{stream_of-put, stream_of-put_other, stream_of-stream}
use Rattle.rtc_sctp_laws.proofs.KeptLists.{message_beside, part_beside}
use Rattle.std.proofs.Common.{length}
use Rattle.rtc_parts.specs.Ppi.{ppi_number}
use Rattle.rtc_parts.specs.AssociationActs.{AssociationAct, Started, Opened, Wrote, Ended, Given, Taken, Read, Told as ToldEvent, Stirred, Starts, ByConnect, ByAccept, BySnap, Stirs, LimitsSet, ConnectRefused, AcceptRefused, SnapRefused, OpenRefused, WriteRefused, ReadRefused, EndRefused, ThresholdSet, ReliabilitySet, Acted}
use Rattle.rtc_parts.specs.Why.{Timed, Shut as ShutDown, Other}
use Rattle.rtc_assoc_state.specs.Contents.{is_closed, is_closing}
use Rattle.rtc_assoc_state.specs.Calls.{limited, started_as, said_hello, connected, accepted, snapped, opened, message_written, next_message, taken_out, stream_ended, thresholded, shut_down, timed, event_given, packet_given}
use Rattle.rtc_assoc_state.specs.PlainMeaning.{plain_meaning, open_cause, write_cause, end_cause, stream_cause, ending_cause, Leaves, Sends, Reads}
use Rattle.rtc_assoc_state.proofs.DoesLemmas.{refused_changes_nothing, does_leaves, times, polls_some, transmits_some, reads_some}
use Rattle.rtc_sctp_laws.proofs.KeptLists.{message_behind}
use Rattle.rtc_sctp_laws.proofs.ThereStreams.{IsHeld, KeepingLaws, WasThere, uses_stream}
use Rattle.rtc_sctp_laws.specs.StreamUses.{is_spent_stream}
use Rattle.rtc_sctp_laws.proofs.BackedRows.{not_stray, plain_sound, plain_unread}
use Rattle.rtc_sctp_laws.proofs.KnownStreams.{UnreadLaws}
use Rattle.rtc_sctp_laws.proofs.HeldRows.{IsKept, IsKeptIn, IsKeptOpen, StoodThere, Beside, Comes, kept_as, comes_beside, comes_none, comes_then, beside_same, beside_acknowledged, beside_front, there_put}
use Rattle.rtc_sctp_laws.proofs.HeldItems.{comes_item}
use Rattle.rtc_sctp_laws.proofs.GoingEnds.{EndGoes, goes_acknowledged_greeted, goes_came}
use Rattle.rtc_sctp_laws.proofs.RowsGo.{RowStays}

comes_if : (s : ℕ) (b : Bool) (now : ℕ) (item : Item) (p : Contents) → plain_sound (cond b (item_taken now item p) p) → Comes s p (cond b (item_taken now item p) p)
comes_if s true now item p ok = comes_item item p (not_stray item p (or_parts (item_put now item p).inbox.strayed (is_stray item p) ok).1) s now
comes_if s false now item p ok = comes_none s p

comes_came : (s now number : ℕ) (item : Item) (p : Contents) → plain_sound (item_came now number item p) → Comes s p (item_came now number item p)
unfolding item_came
comes_came s now number item p ok = comes_if s ((number == p.inbox.received + 1) && not (is_ending p)) now item p ok

sound_answered : (now : ℕ) (q : Contents) → plain_sound (at_moment now (answered q)) → plain_sound q
unfolding answered at_moment
sound_answered now q ok = ok

-- ---- packets

beside_welcomed : (s : ℕ) (p : Contents) → Beside s p (welcomed p)
unfolding welcomed
beside_welcomed s p = by (is_server p.standing.role)
  where
    by : (b : Bool) → Beside s p (cond b (record p { standing = record p.standing { connected = true }; events = p.events ++ (cond p.standing.connected [] (Connected ∷ [])); packets = p.packets ++ (2 ∷ []) ∷ [] }) p)
    by true = beside_same s p _ refl refl refl
    by false = beside_same s p p refl refl refl

beside_greeted : (s : ℕ) (p : Contents) → Beside s p (greeted p)
unfolding greeted
beside_greeted s p = beside_same s p (greeted p) refl refl refl

beside_lost : (s : ℕ) (p : Contents) → Beside s p (lost p)
unfolding lost
beside_lost s p = beside_same s p (lost p) refl refl refl

comes_answered : (s now : ℕ) (p q : Contents) → Comes s p q → Comes s p (at_moment now (answered q))
unfolding answered at_moment
comes_answered s now p q h = record { there = λ t. h.there t; kept = λ e k. h.kept e k }

comes_moment : (s now : ℕ) (p q : Contents) → Beside s p q → Comes s p (at_moment now q)
unfolding at_moment
comes_moment s now p q h = record {
  there = λ t. inl (h.there t);
  kept = λ e k. inl (kept_as s (generation_of p s) (at_moment now q) e (h.kept (generation_of p s) k));
}

-- generations rise
rose : (p q : Contents) → EndGoes p q → (s : ℕ) → generation_of p s ≤ generation_of q s
rose p q h s = by (h.rows.each s).goes
  where
    by : RowStays (stream_of s p.streams) (stream_of s q.streams) ⊎ (generation_of p s < generation_of q s) → generation_of p s ≤ generation_of q s
    by (inl k) = let same = k.generation_is in omega (arith, same)
    by (inr k) = omega (arith, k)

comes_framed : (s now : ℕ) (f : Option Frame) (p : Contents) → plain_sound (at_moment now (framed now f p)) → Comes s p (at_moment now (framed now f p))
comes_framed s now None p ok = comes_moment s now p p (beside_same s p p refl refl refl)
comes_framed s now (Some Hello) p ok = comes_moment s now p (welcomed p) (beside_welcomed s p)
comes_framed s now (Some Welcome) p ok = comes_moment s now p (greeted p) (beside_greeted s p)
comes_framed s now (Some (Data n number item)) p ok =
    comes_answered s now p (item_came now number item (acknowledged n (greeted p)))
    (comes_then s p (acknowledged n (greeted p)) (item_came now number item (acknowledged n (greeted p)))
    (rose p (acknowledged n (greeted p)) (goes_acknowledged_greeted n p) s)
    (rose (acknowledged n (greeted p)) (item_came now number item (acknowledged n (greeted p))) (goes_came now number item (acknowledged n (greeted p))) s)
    (beside_front s n p)
    (comes_came s now number item (acknowledged n (greeted p)) (sound_answered now (item_came now number item (acknowledged n (greeted p))) ok)))
comes_framed s now (Some (Acknowledgement n)) p ok = comes_moment s now p (acknowledged n p) (beside_acknowledged s n p)
comes_framed s now (Some Shutdown) p ok = comes_moment s now p (lost p) (beside_lost s p)

comes_half : (s : ℕ) (f : Option Frame) (p : Contents) → Comes s p (half_taken f p)
comes_half s None p = comes_none s p
comes_half s (Some Hello) p = comes_none s p
comes_half s (Some Welcome) p = comes_none s p
comes_half s (Some (Data n number item)) p = comes_beside s p (acknowledged n (greeted p)) (beside_front s n p)
comes_half s (Some (Acknowledgement n)) p = comes_none s p
comes_half s (Some Shutdown) p = comes_none s p

pub comes_given : (s : ℕ) (p q : Contents) (now : ℕ) (bytes : List ℕ) (r : Result (Unit {0}) AllocError) → Gives p now bytes r q → plain_sound q → Comes s p q
comes_given s p q now bytes r h =
    gives (λ x. plain_sound x → Comes s p x) p q now bytes r (λ ok. comes_none s p) (λ ok. comes_half s (frame_in bytes) p) (λ ok. comes_framed s now (frame_in bytes) p ok) h

-- ---- calls

comes_at : (s : ℕ) (p q r : Contents) → q ≡ r → Beside s p r → Comes s p q
comes_at s p q r e h = subst (Comes s p) (sym e) (comes_beside s p r h)

beside_opened : (s t : ℕ) (p : Contents) → (t ≡ s → ⊥) → Beside s p (opened t p)
unfolding opened
beside_opened s t p ne = record {
  there = λ h. (ap (λ (r : StreamRow). r.there) (sym as_was) ∙ h, ap (λ (r : StreamRow). r.generation) as_was);
  kept = λ g k. k;
}
  where
    row : StreamRow
    row = record (stream_of t p.streams) { there = true }

    as_was : stream_of s (put row p.streams) ≡ stream_of s p.streams
    as_was = stream_of-put_other s row p.streams (ne_eqb row.stream s (λ e. ne (sym (stream_of-stream t p.streams) ∙ e)))

beside_thresholded : (s t n : ℕ) (p : Contents) → Beside s p (thresholded t n p)
unfolding thresholded
beside_thresholded s t n p = record {
  there = λ h.
      let was =
      there_put (generation_of (thresholded t n p) s) t (record (stream_of t p.streams) { threshold = Some n }) p.streams (stream_of-stream t p.streams) (λ k. k) s
      (h, refl) in
      (was.0, sym was.1);
  kept = λ g k. k;
}

comes_ended : (s now t : ℕ) (p : Contents) → Comes s p (stream_ended now t p)
unfolding stream_ended sent
comes_ended s now t p = record {
  there = λ h.
      let was = there_put (generation_of (stream_ended now t p) s) t row p.streams same (λ k. k) s (h, refl) in
      inl (was.0, sym was.1);
  kept = λ e k. by (t == s) refl e k;
}
  where
    row : StreamRow
    row = record (stream_of t p.streams) { close = Queued }

    same : row.stream ≡ t
    same = stream_of-stream t p.streams

    beside : (t ≡ s → ⊥) → (g : ℕ) → IsKeptIn p s g → IsKeptIn (stream_ended now t p) s g
    beside ne g (inl k) = inl (message_beside s g t (stream_of t p.streams).generation p.inbox.unread ne k)
    beside ne g (inr k) = inr (part_beside s g t (stream_of t p.streams).generation p.inbox.parts ne k)

    by : (b : Bool) → (t == s) ≡ b → generation_of (stream_ended now t p) s ≡ generation_of p s → IsKept p s → IsKeptOpen (stream_ended now t p) s
    by true f e k =
        inr
        (subst (λ (n : ℕ). closed_here (stream_ended now t p) n ≡ true) (eqb-true t s f)
        (ap (λ (n : ℕ). is_closed_here (stream_of n (put row p.streams))) (sym same) ∙ ap is_closed_here (stream_of-put row p.streams)))
    by false f e k = inl (kept_as s (generation_of p s) (stream_ended now t p) e (beside (eqb-false t s f) (generation_of p s) k))

beside_taken_out : (s t : ℕ) (p : Contents) → (t ≡ s → ⊥) → Beside s p (taken_out t p)
unfolding taken_out
beside_taken_out s t p ne = record { there = λ h. (h, refl); kept = λ g k. by g k }
  where
    by : (g : ℕ) → IsKeptIn p s g → IsKeptIn (taken_out t p) s g
    by g (inl k) = inl (message_behind s g t (stream_of t p.streams).generation p.inbox.unread ne k)
    by g (inr k) = inr k

beside_written : (s t i : ℕ) (bytes : List ℕ) (p : Contents) → Beside s p (message_written t i bytes p)
unfolding sent
beside_written s t i bytes p = beside_same s p (message_written t i bytes p) refl refl refl

beside_connected : (s now m : ℕ) (p : Contents) → Beside s p (connected now m p)
unfolding started_as said_hello
beside_connected s now m p = beside_same s p (connected now m p) refl refl refl

beside_accepted : (s now m : ℕ) (p : Contents) → Beside s p (accepted now m p)
unfolding started_as
beside_accepted s now m p = beside_same s p (accepted now m p) refl refl refl

beside_snapped : (s now m : ℕ) (p : Contents) → Beside s p (snapped now m p)
unfolding snapped started_as
beside_snapped s now m p = beside_same s p (snapped now m p) refl refl refl

beside_limited : (s n m : ℕ) (p : Contents) → Beside s p (limited n m p)
unfolding limited
beside_limited s n m p = beside_same s p (limited n m p) refl refl refl

beside_shut_down : (s : ℕ) (p : Contents) → Beside s p (shut_down p)
unfolding shut_down
beside_shut_down s p = beside_same s p (shut_down p) refl refl refl

beside_timed : (s now : ℕ) (p : Contents) → Beside s p (timed now p)
unfolding timed
beside_timed s now p = beside_same s p (timed now p) refl refl refl

-- ---- acts

-- of streams that an act neither opens nor reads
comes_started : (s : ℕ) (p q : Contents) → Starts plain_meaning p q → Comes s p q
comes_started s p q (ByConnect now m h) = comes_at s p q (connected now m p) h.1 (beside_connected s now m p)
comes_started s p q (ByAccept now m h) = comes_at s p q (accepted now m p) h.1 (beside_accepted s now m p)
comes_started s p q (BySnap now m l o h) = comes_at s p q (snapped now m p) h.1 (beside_snapped s now m p)

comes_unchanged : (s : ℕ) (p q : Contents) → q ≡ p → Comes s p q
comes_unchanged s p q e = comes_at s p q p e (beside_same s p p refl refl refl)

comes_stirs : (s : ℕ) (p q : Contents) → Stirs plain_meaning p q → Comes s p q
comes_stirs s p q (LimitsSet n m h) = comes_at s p q (limited n m p) h (beside_limited s n m p)
comes_stirs s p q (ConnectRefused now m e k h) = comes_unchanged s p q (refused_changes_nothing None p q (Leaves (connected now m p)) e h)
comes_stirs s p q (AcceptRefused now m e k h) = comes_unchanged s p q (refused_changes_nothing None p q (Leaves (accepted now m p)) e h)
comes_stirs s p q (SnapRefused now m l o e k h) = comes_unchanged s p q (refused_changes_nothing None p q (Leaves (snapped now m p)) e h)
comes_stirs s p q (OpenRefused id e h) = comes_unchanged s p q (refused_changes_nothing (open_cause p id) p q (Leaves (opened id p)) e h)
comes_stirs s p q (WriteRefused id i b e h) = comes_unchanged s p q (refused_changes_nothing (write_cause p id b) p q (λ n o. (n ≡ length b) × Sends p (message_written id (ppi_number i) b p) o) e h)
comes_stirs s p q (ReadRefused id e h) = comes_unchanged s p q (refused_changes_nothing (stream_cause p id) p q (λ m o. Reads (next_message id p) id p m o) e h)
comes_stirs s p q (EndRefused id e h) = comes_unchanged s p q (refused_changes_nothing {T = Unit {0}} (end_cause p id) p q (λ _ o. Sends p (stream_ended p.clock.now id p) o) e h)
comes_stirs s p q (ThresholdSet id n r h) =
    does_leaves (Comes s p) (stream_cause p id) p (thresholded id n p) q r (comes_none s p) (comes_beside s p (thresholded id n p) (beside_thresholded s id n p)) h
comes_stirs s p q (ReliabilitySet id u t n r h) = does_leaves (Comes s p) (stream_cause p id) p p q r (comes_none s p) (comes_none s p) h

comes_act : (s : ℕ) (p q : Contents) (act : AssociationAct) → Acted plain_meaning p act q → uses_stream s act ≡ false → plain_sound q → Comes s p q
comes_act s p q Started h none ok = comes_started s p q h.1
comes_act s p q (Opened t n) h none ok = comes_at s p q (opened t p) h.0.1 (beside_opened s t p (eqb-false t s none))
comes_act s p q (Wrote t n i b) h none ok =
    comes_at s p q (message_written t (ppi_number h.0) b p) h.1.1.0.1.1.0 (beside_written s t (ppi_number h.0) b p)
comes_act s p q (Ended t n) h none ok =
    subst (Comes s p) (sym h.0.1.0) (comes_ended s p.clock.now t p)
comes_act s p q (Given b) h none ok = comes_given s p q h.0 b h.1.0 h.1.1 ok
comes_act s p q (Taken b) h none ok =
    let w = transmits_some p.packets p q b h in comes_at s p q (packet_given w.0.rest p) w.1.1 (beside_same s p (packet_given w.0.rest p) refl refl refl)
comes_act s p q (Read t n i b) h none ok =
    let w = reads_some (next_message t p) t p q (h.0, b) h.1.0.1 in comes_at s p q (taken_out t p) w.1.2 (beside_taken_out s t p (eqb-false t s none))
comes_act s p q (ToldEvent e) h none ok =
    let w = polls_some p.events p q e h in comes_at s p q (event_given w.0.rest p) w.1 (beside_same s p (event_given w.0.rest p) refl refl refl)
comes_act s p q (Stirred (Timed now)) h none ok =
    times (Comes s p) p q now h.0 (comes_none s p) (comes_beside s p (timed now p) (beside_timed s now p)) h.1
comes_act s p q (Stirred ShutDown) h none ok =
    does_leaves (Comes s p) (ending_cause p) p (shut_down p) q h.0 (comes_none s p) (comes_beside s p (shut_down p) (beside_shut_down s p)) h.1
comes_act s p q (Stirred Other) h none ok = comes_stirs s p q h

or_left : (a b : Bool) → a ≡ true → (a || b) ≡ true
or_left a b e = rw e refl

-- kept, where no stray was taken
abbrev pub IsKeptIf : Contents → ℕ → Type 0
IsKeptIf p s = plain_sound p → IsKept p s

spent_open : (p : Contents) (s : ℕ) → is_spent_stream plain_meaning s p ≡ false → IsKeptOpen p s → IsKept p s
spent_open p s unspent (inl k) = k
spent_open p s unspent (inr closed) = absurd (true≢false (sym (or_left (closed_here p s) (is_closing p || is_closed p) closed) ∙ unspent))

rises_open : (p q : Contents) (s : ℕ) → (plain_sound q → StoodThere s p q ⊎ IsKeptOpen q s)
    → WasThere plain_meaning IsKeptIf s p q ⊎ IsHeld plain_meaning IsKeptIf s q
rises_open p q s come = by (has_stream p s) (generation_of q s == generation_of p s) (is_spent_stream plain_meaning s q) refl refl refl
  where
    of_come : (StoodThere s p q → ⊥) → is_spent_stream plain_meaning s q ≡ false → StoodThere s p q ⊎ IsKeptOpen q s → IsKept q s
    of_come never unspent (inl was) = absurd (never was)
    of_come never unspent (inr k) = spent_open q s unspent k

    by : (there same spent : Bool) → has_stream p s ≡ there → (generation_of q s == generation_of p s) ≡ same
        → is_spent_stream plain_meaning s q ≡ spent → WasThere plain_meaning IsKeptIf s p q ⊎ IsHeld plain_meaning IsKeptIf s q
    by there same true e f g = inr (inr g)
    by true true false e f g = inl (e, eqb-true (generation_of q s) (generation_of p s) f)
    by true false false e f g = inr (inl (λ ok. of_come (λ was. eqb-false (generation_of q s) (generation_of p s) f was.1) g (come ok)))
    by false same false e f g = inr (inl (λ ok. of_come (λ was. true≢false (sym was.0 ∙ e)) g (come ok)))

stays_open : (q : Contents) (s : ℕ) → (plain_sound q → IsKeptOpen q s) → IsHeld plain_meaning IsKeptIf s q
stays_open q s come = by (is_spent_stream plain_meaning s q) refl
  where
    by : (spent : Bool) → is_spent_stream plain_meaning s q ≡ spent → IsHeld plain_meaning IsKeptIf s q
    by true f = inr f
    by false f = inl (λ ok. spent_open q s f (come ok))

pub plain_keeping : KeepingLaws plain_meaning IsKeptIf
plain_keeping = record {
  rises = λ a b act s h none t. rises_open a b s (λ ok. (comes_act s a b act h none ok).there t);
  stays = λ a b act s h none e k. stays_open b s (λ ok. (comes_act s a b act h none ok).kept e (k (UnreadLaws.before plain_unread a b act h ok)));
}
