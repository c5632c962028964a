-- The plain association keeps the laws of every association.
use Rattle.std.proofs.Common.{ℕ, ◌≡◌, ◌+◌, ◌-◌, ◌*◌, ◌≤◌, ◌==◌, ◌⊎◌, ◌&&◌, ◌++◌, append-nil, inl, inr, Bool, true, false, cond, List, [], ◌∷◌, length, Option, Some, None, Result, Ok, Err, refl, sym, ap, subst, ◌∙◌, arith}
use Rattle.std.proofs.lemmas.Bool.Decides.{eqb_tells}
use Rattle.rtc_parts.specs.declared.assoc_error.AssocError.{AssocError}
use Rattle.rtc_parts.specs.declared.assoc_error.AssocError.TheVariants.{StreamExists, ResetPending, Alloc}
use Rattle.rtc_parts.specs.declared.assoc_event.AssocEvent.{AssocEvent}
use Rattle.rtc_parts.specs.declared.ppi.Ppi.{Ppi}
use Rattle.rtc_parts.specs.Ppi.{ppi_number}
use Rattle.rtc_parts.specs.Why.{Timed, Shut, Other}
use Rattle.rtc_parts.specs.AssociationWords.{told}
use Rattle.rtc_parts.specs.AssociationActs.{AssociationAct, Started, Opened, Wrote, Ended, Given, Taken, Read, Told, Stirred, starts, Starts, Stirs, LimitsSet, ConnectRefused, AcceptRefused, SnapRefused, OpenRefused, WriteRefused, ReadRefused, EndRefused, ThresholdSet, ReliabilitySet, Acted, is_threshold_set, brings_threshold}
use Rattle.rtc_parts.specs.AssociationLaws.{AssociationLaws, Buffers}
use Rattle.rtc_assoc_state.specs.Packets.{frame_in}
use Rattle.rtc_assoc_state.specs.Pieces.{pieces_of}
use Rattle.rtc_assoc_state.specs.Streams.{stream_of, any_threshold}
use Rattle.rtc_assoc_state.specs.Outbox.{buffered}
use Rattle.rtc_assoc_state.specs.Contents.{Contents, is_started, generation_of, is_finished, has_unread, has_stream, closed_here, buffered_of, work, held_outputs}
use Rattle.rtc_assoc_state.specs.Calls.{connected, accepted, snapped, opened, sent, message_written, next_message, stream_ended, thresholded, shut_down, event_given, packet_given}
use Rattle.rtc_assoc_state.specs.PlainMeaning.{plain_meaning, Does, Leaves, Sends, Reads, Polls, Transmits, ending_cause, open_cause, write_cause, end_cause, stream_cause}
use Rattle.rtc_assoc_state.proofs.RaiseLemmas.{raises_none}
use Rattle.rtc_assoc_state.proofs.SilentLemmas.{SilentRows}
use Rattle.rtc_assoc_state.proofs.ReadableLemmas.{some-unread, none-unread}
use Rattle.rtc_parts.specs.AssociationEvents.{AddsEvents}
use Rattle.rtc_assoc_state.specs.Inbox.{Inbox, is_message_of}
use Rattle.std.specs.List.{list_any}
use Rattle.rtc_assoc_state.specs.declared.stream_row.StreamRow.{StreamRow}
use Rattle.rtc_assoc_state.proofs.KeepLemmas.{KeepsContents, Silent, keeps_none, keeps_limited, keeps_opened, keeps_sent, keeps_taken_out, keeps_ended, keeps_shut_down, keeps_half, keeps_input, keeps_timed}
use Rattle.rtc_assoc_state.proofs.CourseLemmas.{courses_set}
use Rattle.rtc_assoc_state.proofs.WorkLemmas.{work-opened, work-thresholded, work-written, work-ended, work-shut_down, work-taken_out, work-half, work-input}
use Rattle.rtc_assoc_state.proofs.StartLemmas.{started-connected, started-accepted, started-snapped, leaves_started, raised_starts, inbox_starts}
use Rattle.rtc_assoc_state.proofs.StartLemmas.{streams-connected, streams-accepted, streams-snapped, streams_start, same_generation}
use Rattle.rtc_assoc_state.proofs.BufferedLemmas.{buffered-append, buffered-pieces}
use Rattle.rtc_assoc_state.proofs.FallLemmas.{falls_act}
use Rattle.rtc_assoc_state.proofs.DoesLemmas.{does_answered, refused_changes_nothing, refused_again, unrefused, does_leaves, does_sends, does_writes, gives, times, Popped, polls_some, polls_none, transmits_some, transmits_none, reads_some, reads_none}

-- every act but a start, an event and a threshold keeps; each of these is told apart
pub data Kept (p : Contents) (act : AssociationAct) (brings : Bool) (q : Contents) : Type 0 where
  Keeping : told (act ∷ []) ≡ [] → KeepsContents p q → Kept p act brings q
  Starting : act ≡ Started → Starts plain_meaning p q → Kept p act brings q
  Telling : (e : AssocEvent) (w : Popped p.events e) → act ≡ Told e → q ≡ event_given w.rest p → Kept p act brings q
  Setting : (id n : ℕ) → told (act ∷ []) ≡ [] → brings ≡ true → Does (stream_cause p id) p (Leaves (thresholded id n p)) (Ok tt) q → Kept p act brings q

keeps_same : (p q : Contents) → q ≡ p → KeepsContents p q
keeps_same p q e = subst (KeepsContents p) (sym e) (keeps_none p)

packet_keeps : (packets : List (List ℕ)) (p : Contents) → KeepsContents p (packet_given packets p)
packet_keeps packets p = record { started = refl; max_send = refl; raises = raises_none p.streams p.events; readable = λ id g u. inl u; silent = λ h. h }

keeps_stirs : (p q : Contents) (h : Stirs plain_meaning p q) → Kept p (Stirred Other) (is_threshold_set plain_meaning p q h) q
keeps_stirs p q (LimitsSet n m h) = Keeping refl (subst (KeepsContents p) (sym h) (keeps_limited n m p))
keeps_stirs p q (ConnectRefused now m e s h) = Keeping refl (keeps_same p q (refused_changes_nothing None p q (Leaves (connected now m p)) e h))
keeps_stirs p q (AcceptRefused now m e s h) = Keeping refl (keeps_same p q (refused_changes_nothing None p q (Leaves (accepted now m p)) e h))
keeps_stirs p q (SnapRefused now m l o e s h) = Keeping refl (keeps_same p q (refused_changes_nothing None p q (Leaves (snapped now m p)) e h))
keeps_stirs p q (OpenRefused id e h) = Keeping refl (keeps_same p q (refused_changes_nothing (open_cause p id) p q (Leaves (opened id p)) e h))
keeps_stirs p q (WriteRefused id i b e h) = Keeping refl (keeps_same p q (refused_changes_nothing (write_cause p id b) p q (λ n o. (n ≡ length b) × Sends p (message_written id (ppi_number i) b p) o) e h))
keeps_stirs p q (ReadRefused id e h) = Keeping refl (keeps_same p q (refused_changes_nothing (stream_cause p id) p q (λ m o. Reads (next_message id p) id p m o) e h))
keeps_stirs p q (EndRefused id e h) = Keeping refl (keeps_same p q (refused_changes_nothing {T = Unit {0}} (end_cause p id) p q (λ _ o. Sends p (stream_ended p.clock.now id p) o) e h))
keeps_stirs p q (ThresholdSet id n (Ok x) h) = Setting id n refl refl h
keeps_stirs p q (ThresholdSet id n (Err e) h) = Keeping refl (keeps_same p q (refused_changes_nothing (stream_cause p id) p q (Leaves (thresholded id n p)) e h))
keeps_stirs p q (ReliabilitySet id u t n r h) = Keeping refl (does_leaves (KeepsContents p) (stream_cause p id) p p q r (keeps_none p) (keeps_none p) h)

keeps_written : (id i : ℕ) (b : List ℕ) (p : Contents) → KeepsContents p (message_written id i b p)
keeps_written id i b p = keeps_sent p.clock.now _ p

pub keeps_act : (p q : Contents) (act : AssociationAct) (h : Acted plain_meaning p act q) → Kept p act (brings_threshold plain_meaning p q act h) q
keeps_act p q Started h = Starting refl h.1
keeps_act p q (Opened s g) h = Keeping refl (subst (KeepsContents p) (sym h.0.1) (keeps_opened s p))
keeps_act p q (Wrote s g i b) h = Keeping refl (subst (KeepsContents p) (sym h.1.1.0.1.1.0) (keeps_written s (ppi_number h.0) b p))
keeps_act p q (Ended s g) h = Keeping refl (subst (KeepsContents p) (sym h.0.1.0) (keeps_ended p.clock.now s p))
keeps_act p q (Given b) h = Keeping refl (gives (KeepsContents p) p q h.0 b h.1.0 (keeps_none p) (keeps_half (frame_in b) p) (keeps_input h.0 b p) h.1.1)
keeps_act p q (Taken b) h = let w = transmits_some p.packets p q b h in Keeping refl (subst (KeepsContents p) (sym w.1.1) (packet_keeps w.0.rest p))
keeps_act p q (Read s g i b) h = let w = reads_some (next_message s p) s p q (h.0, b) h.1.0.1 in Keeping refl (subst (KeepsContents p) (sym w.1.2) (keeps_taken_out s p))
keeps_act p q (Told e) h = let w = polls_some p.events p q e h in Telling e w.0 refl w.1
keeps_act p q (Stirred (Timed now)) h = Keeping refl (times (KeepsContents p) p q now h.0 (keeps_none p) (keeps_timed now p) h.1)
keeps_act p q (Stirred Shut) h = Keeping refl (does_leaves (KeepsContents p) (ending_cause p) p (shut_down p) q h.0 (keeps_none p) (keeps_shut_down p) h.1)
keeps_act p q (Stirred Other) h = keeps_stirs p q h

same_start : (p q : Contents) (act : AssociationAct) (b : Bool) → starts act ≡ false → Kept p act b q → (is_started q ≡ is_started p) × (q.limits.max_send ≡ p.limits.max_send)
same_start p q act b s (Keeping t k) = (k.started, k.max_send)
same_start p q act b s (Starting a k) = absurd (let e : true ≡ false = sym (ap starts a) ∙ s in cc)
same_start p q act b s (Telling e w a k) = (ap is_started k, ap (λ (c : Contents). c.limits.max_send) k)
same_start p q act b s (Setting id n t o k) = let c = courses_set p q id n (Ok tt) k in (c.started, c.max_send)

adds : (p q : Contents) (act : AssociationAct) (b : Bool) → Kept p act b q → AddsEvents plain_meaning p (act ∷ []) q
adds p q act b (Keeping t k) = record {
  more = k.raises.more;
  due_is = ap (λ l. l ++ q.events) t ∙ k.raises.told_is;
  rises = k.raises.rises;
  in_order = k.raises.in_order;
  readable = k.readable;
  gone = k.raises.gone;
}
adds p q act b (Starting a k) =
    let r = raised_starts p q k in
    record {
      more = r.more;
      due_is = ap (λ (x : AssociationAct). told (x ∷ []) ++ q.events) a ∙ r.told_is;
      rises = r.rises;
      in_order = r.in_order;
      readable = λ id g u. inl (ap (λ (i : Inbox). list_any (is_message_of id g) i.unread) (sym (inbox_starts p q k)) ∙ u);
      gone = r.gone;
    }
adds p q act b (Telling e w a k) = record {
  more = [];
  due_is = ap (λ (x : AssociationAct). told (x ∷ []) ++ q.events) a ∙ ap (λ (c : Contents). e ∷ c.events) k ∙ sym w.is ∙ sym (append-nil p.events);
  rises = λ id. omega (arith, ap (λ (c : Contents). generation_of c id) k);
  in_order = λ id. ap (λ (c : Contents). is_finished c id) k;
  readable = λ id g u. inl (ap (λ (c : Contents). has_unread c id g) (sym k) ∙ u);
  gone = λ id t. inl (ap (λ (c : Contents). has_stream c id) k ∙ t);
}
adds p q act b (Setting i n t o k) =
    let c = courses_set p q i n (Ok tt) k in
    record {
      more = [];
      due_is = ap (λ l. l ++ q.events) t ∙ c.events ∙ sym (append-nil p.events);
      rises = λ id. omega (arith, c.generations id);
      in_order = c.finishes;
      readable = λ id g u. inl (ap (λ (b : Inbox). list_any (is_message_of id g) b.unread) (sym c.inbox) ∙ u);
      gone = λ id t. inl (c.stays id t);
    }

silent_by : (p q : Contents) → q.streams ≡ p.streams → q.inbox ≡ p.inbox → Silent p → Silent q
silent_by p q s i h =
    let P : List StreamRow → Type 0 = λ rows. SilentRows rows q.inbox.unread in
    let Q : Inbox → Type 0 = λ b. SilentRows p.streams b.unread in
    subst P (sym s) (subst Q (sym i) h)

-- no act gives a stream that this end closed a message of its generation
silent_act : (p q : Contents) (act : AssociationAct) (b : Bool) → Kept p act b q → Silent p → Silent q
silent_act p q act b (Keeping t k) = k.silent
silent_act p q act b (Starting a k) = silent_by p q (streams_start p q k) (inbox_starts p q k)
silent_act p q act b (Telling e w a k) = silent_by p q (ap (λ (c : Contents). c.streams) k) (ap (λ (c : Contents). c.inbox) k)
silent_act p q act b (Setting id n t o k) = (courses_set p q id n (Ok tt) k).silent

no_threshold : (p q : Contents) (act : AssociationAct) (b : Bool) → Kept p act b q → b ≡ false → any_threshold p.streams ≡ false → any_threshold q.streams ≡ false
no_threshold p q act b (Keeping o k) e f = k.raises.thresholds f
no_threshold p q act b (Starting a k) e f = (raised_starts p q k).thresholds f
no_threshold p q act b (Telling event w a k) e f = ap (λ (c : Contents). any_threshold c.streams) k ∙ f
no_threshold p q act b (Setting id n t o k) e f = absurd (let x : true ≡ false = sym o ∙ e in cc)

-- the buffered amounts of a message that is written
bytes_written : (p : Contents) (id i : ℕ) (bytes : List ℕ) (s : ℕ) → buffered s (message_written id i bytes p).outbox.items ≡ buffered s p.outbox.items + cond (id == s) (length bytes) 0
unfolding sent
bytes_written p id i bytes s =
    let size = p.limits.max_payload - 28 in
    let g = (stream_of id p.streams).generation in
    omega (arith, buffered-append s p.outbox.items (pieces_of size id g i bytes), buffered-pieces (length bytes) size id g i s bytes)

streams_written : (p : Contents) (id i : ℕ) (bytes : List ℕ) → (message_written id i bytes p).streams ≡ p.streams
unfolding sent
streams_written p id i bytes = refl

there_by : (b : Bool) (m n : ℕ) → m ≤ n → cond b m 0 ≤ cond b n 0
there_by true m n h = h
there_by false m n h = omega arith

bound_by : (b : Bool) (m n k : ℕ) → m ≤ n + k → cond b m 0 ≤ cond b n 0 + k
bound_by true m n k h = h
bound_by false m n k h = omega arith

buffers : (p : Contents) (id i : ℕ) (bytes : List ℕ) → Buffers plain_meaning p id (length bytes) (message_written id i bytes p)
buffers p id i bytes =
    let q = message_written id i bytes p in
    let here : buffered id q.outbox.items ≡ buffered id p.outbox.items + length bytes = elim (eqb_tells id id) [ inl h ↦ rw h.0 at (bytes_written p id i bytes id) | inr h ↦ absurd (h.1 refl) ] in
    let now : (s : ℕ) → buffered_of q s ≡ cond (has_stream p s) (buffered s q.outbox.items) 0 = λ s. ap (λ (l : List StreamRow). cond (stream_of s l).there (buffered s q.outbox.items) 0) (streams_written p id i bytes) in
    record {
      rises = omega (arith, now id, there_by (has_stream p id) (buffered id p.outbox.items) (buffered id q.outbox.items) (omega (arith, here)));
      bound = omega (arith, now id, bound_by (has_stream p id) (buffered id q.outbox.items) (buffered id p.outbox.items) (length bytes) (omega (arith, here)));
      others = λ o n. elim (eqb_tells id o) [
        | inl h ↦ absurd (n (sym h.1))
        | inr h ↦ let e = rw h.0 at (bytes_written p id i bytes o) in now o ∙ ap (λ k. cond (has_stream p o) k 0) (omega (arith, e))
      ];
    }

read_again : (p q o : Contents) (id : ℕ) (r : Result (Option (Ppi × List ℕ)) AssocError) → Does (stream_cause p id) p (λ m c. Reads (next_message id p) id p m c) (Ok None) q → Does (stream_cause p id) p (λ m c. Reads (next_message id p) id p m c) r o → (r ≡ Ok None) ⊎ (r ≡ Err Alloc)
read_again p q o id r h k =
    let none = reads_none (next_message id p) id p q h.1 in
    let D : Option AssocError → Type 0 = λ (c : Option AssocError). Does c p (λ m x. Reads (next_message id p) id p m x) r o in
    elim (unrefused p o (λ m x. Reads (next_message id p) id p m x) r (subst D h.0 k)) [
      | inl w ↦ inl (w.1.0 ∙ ap (λ (m : Option (Ppi × List ℕ)). Ok m) (nothing_read w.0 none.0 w.1.1))
      | inr w ↦ inr w
    ]
  where
    nothing_read : (m : Option (Ppi × List ℕ)) → next_message id p ≡ None → Reads (next_message id p) id p m o → m ≡ None
    nothing_read None n w = refl
    nothing_read (Some shown) n w = absurd (let s = reads_some (next_message id p) id p o shown w in let e : None ≡ Some s.0 = sym n ∙ s.1.0 in cc)

opened_again : (p q o : Contents) (id : ℕ) (e : AssocError) (r : Result (Unit {0}) AssocError) → (e ≡ StreamExists) ⊎ (e ≡ ResetPending) → Does (open_cause p id) p (Leaves (opened id p)) (Err e) q → Does (open_cause p id) p (Leaves (opened id p)) r o → (r ≡ Err e) ⊎ (r ≡ Err Alloc)
opened_again p q o id e r (inl s) h k =
    let D : AssocError → Type 0 = λ (x : AssocError). Does (open_cause p id) p (Leaves (opened id p)) (Err x) q in
    refused_again (open_cause p id) p o (Leaves (opened id p)) e r ((subst D s h).0 ∙ ap (λ (x : AssocError). Some x) (sym s)) k
opened_again p q o id e r (inr s) h k =
    let D : AssocError → Type 0 = λ (x : AssocError). Does (open_cause p id) p (Leaves (opened id p)) (Err x) q in
    refused_again (open_cause p id) p o (Leaves (opened id p)) e r ((subst D s h).0 ∙ ap (λ (x : AssocError). Some x) (sym s)) k

length-nil : {A : Type 0} (xs : List A) → length xs ≡ 0 → xs ≡ []
length-nil [] e = refl
length-nil (x ∷ xs) e = absurd (omega (arith, e))

quiet_event : (p : Contents) → held_outputs p ≡ 0 → Polls p.events p None p
quiet_event p e = let none : p.events ≡ [] = length-nil p.events (omega (arith, e)) in subst (λ (l : List AssocEvent). Polls l p None p) (sym none) refl

quiet_packet : (p : Contents) → held_outputs p ≡ 0 → Transmits p.packets p None p
quiet_packet p e = let none : p.packets ≡ [] = length-nil p.packets (omega (arith, e)) in subst (λ (l : List (List ℕ)). Transmits l p None p) (sym none) refl

silent : (p q o : Contents) → Polls p.events p None q → Transmits p.packets p None o → held_outputs p ≡ 0
silent p q o h k = omega (arith, ap length (polls_none p.events p q h).0, ap length (transmits_none p.packets p o k).0)

both_hold : (a b : Bool) → (a && b) ≡ true → a ≡ true
both_hold true b e = refl
both_hold false b e = absurd cc

both_held : (a b : Bool) → (a && b) ≡ true → b ≡ true
both_held true b e = e
both_held false b e = absurd cc

abbrev AtMost : Contents → ℕ → Contents → Type 0
AtMost p n q = work q ≤ work p + n

pub plain_laws : AssociationLaws plain_meaning
plain_laws = record {
  fresh_not_started = λ p f. ap is_started f;
  fresh_no_threshold = λ p f. ap (λ (c : Contents). any_threshold c.streams) f;
  fresh_due = λ p f. ap (λ (c : Contents). c.events) f;
  fresh_generation = λ p id f. ap (λ (c : Contents). generation_of c id) f;
  fresh_finished = λ p id f. ap (λ (c : Contents). is_finished c id) f;
  fresh_unread = λ p id g f. ap (λ (c : Contents). has_unread c id g) f;
  connect_answer = λ p q now m r h. does_answered None p q (Leaves (connected now m p)) r h;
  accept_answer = λ p q now m r h. does_answered None p q (Leaves (accepted now m p)) r h;
  snap_answer = λ p q now m l o r h. does_answered None p q (Leaves (snapped now m p)) r h;
  open_answer = λ p q id r h. does_answered (open_cause p id) p q (Leaves (opened id p)) r h;
  write_answer = λ p q id i b r h. does_answered (write_cause p id b) p q (λ n o. (n ≡ length b) × Sends p (message_written id (ppi_number i) b p) o) r h;
  read_answer = λ p q id r h. does_answered (stream_cause p id) p q (λ m o. Reads (next_message id p) id p m o) r h;
  end_answer = λ p q id r h. does_answered {T = Unit {0}} (end_cause p id) p q (λ _ o. Sends p (stream_ended p.clock.now id p) o) r h;
  threshold_answer = λ p q id n r h. does_answered (stream_cause p id) p q (Leaves (thresholded id n p)) r h;
  reliability_answer = λ p q id u t n r h. does_answered (stream_cause p id) p q (Leaves p) r h;
  shut_answer = λ p q r h. does_answered (ending_cause p) p q (Leaves (shut_down p)) r h;
  connect_starts = λ p q now m r f h. leaves_started m p (connected now m p) q r f (started-connected now m p) h;
  accept_starts = λ p q now m r f h. leaves_started m p (accepted now m p) q r f (started-accepted now m p) h;
  snap_starts = λ p q now m l o r f h. leaves_started m p (snapped now m p) q r f (started-snapped now m p) h;
  same_start = λ p q act s h. same_start p q act (brings_threshold plain_meaning p q act h) s (keeps_act p q act h);
  connect_generation = λ p q now m id r h. same_generation p (connected now m p) q r id (streams-connected now m p) h;
  accept_generation = λ p q now m id r h. same_generation p (accepted now m p) q r id (streams-accepted now m p) h;
  snap_generation = λ p q now m id l o r h. same_generation p (snapped now m p) q r id (streams-snapped now m p) h;
  write_count = λ p q id i b n h. h.1.0;
  write_buffers = λ p q id i b n h. subst (Buffers plain_meaning p id (length b)) (sym h.1.1.0) (buffers p id (ppi_number i) b);
  read_none = λ p q id h. (reads_none (next_message id p) id p q h.1).1;
  read_none_again = λ p q o id r h k. read_again p q o id r h k;
  open_refused = λ p q id e s h. refused_changes_nothing (open_cause p id) p q (Leaves (opened id p)) e h;
  open_refused_again = λ p q o id e r s h k. opened_again p q o id e r s h k;
  read_unread = λ p q id m h. let w = reads_some (next_message id p) id p q m h.1 in some-unread id (generation_of p id) p.inbox.unread w.0 w.1.0;
  none_unread = λ p q id h. none-unread id (generation_of p id) p.inbox.unread (reads_none (next_message id p) id p q h.1).0;
  stale_there = λ p id h. both_hold (has_stream p id) (closed_here p id) h;
  stale_closed = λ p id h. both_held (has_stream p id) (closed_here p id) h;
  none_buffered = λ p id h. ap (λ b. cond b (buffered id p.outbox.items) 0) h;
  there_buffered = λ p id h. ap (λ b. cond b (buffered id p.outbox.items) 0) h;
  unacknowledged_falls = λ p q act id other h. falls_act p q act id (λ s i bytes. bytes_written p s i bytes id) other h;
  adds = λ p q act h. adds p q act (brings_threshold plain_meaning p q act h) (keeps_act p q act h);
  closed_silent = λ p q act h. silent_act p q act (brings_threshold plain_meaning p q act h) (keeps_act p q act h);
  poll_head = λ p q e h. let w = polls_some p.events p q e h in w.0.is ∙ ap (λ (c : Contents). e ∷ c.events) (sym w.1);
  poll_none = λ p q h. (polls_none p.events p q h).0;
  faults_rise = λ p q act h. omega arith;
  event_none = λ p q h. (polls_none p.events p q h).1;
  packet_none = λ p q h. (transmits_none p.packets p q h).1;
  event_falls = λ p q e h. let w = polls_some p.events p q e h in omega (arith, ap length w.0.is, ap held_outputs w.1);
  packet_falls = λ p q b h. let w = transmits_some p.packets p q b h in omega (arith, ap length w.0.is, ap held_outputs w.1.1);
  quiet_event = λ p e. quiet_event p e;
  quiet_packet = λ p e. quiet_packet p e;
  silent = λ p q o h k. silent p q o h k;
  packet_short = λ p q b h. (transmits_some p.packets p q b h).1.0;
  event_units = λ p q e h. let w = polls_some p.events p q e h in omega (arith, ap length w.0.is, ap work w.1);
  packet_units = λ p q b h. let w = transmits_some p.packets p q b h in omega (arith, ap length w.0.is, ap work w.1.1);
  read_units = λ p q id m h. let w = reads_some (next_message id p) id p q m h.1 in omega (arith, work-taken_out id p w.0 w.1.0, ap work w.1.2);
  read_refused_units = λ p q id e h. omega (arith, ap work (refused_changes_nothing (stream_cause p id) p q (λ m o. Reads (next_message id p) id p m o) e h));
  open_units = λ p q id r h. let bound : work q ≤ work p + 0 = does_leaves (AtMost p 0) (open_cause p id) p (opened id p) q r (omega arith) (omega (arith, work-opened id p)) h in omega (arith, bound);
  threshold_units = λ p q id n r h. does_leaves (λ c. work c ≤ work p) (stream_cause p id) p (thresholded id n p) q r (omega arith) (omega (arith, work-thresholded id n p)) h;
  reliability_units = λ p q id u t n r h. let bound : work q ≤ work p + 0 = does_leaves (AtMost p 0) (stream_cause p id) p p q r (omega arith) (omega arith) h in omega (arith, bound);
  write_units = λ p q id i b r h. let bound : work q ≤ work p + (length b + 1) = does_writes (AtMost p (length b + 1)) (write_cause p id b) p (message_written id (ppi_number i) b p) q (length b) r (omega arith) (omega (arith, work-written id (ppi_number i) b p)) h in omega (arith, bound);
  end_units = λ p q id r h. let bound : work q ≤ work p + 1 = does_sends (AtMost p 1) (end_cause p id) p (stream_ended p.clock.now id p) q r (omega arith) (work-ended p.clock.now id p) h in omega (arith, bound);
  shut_units = λ p q r h. let bound : work q ≤ work p + 1 = does_leaves (AtMost p 1) (ending_cause p) p (shut_down p) q r (omega arith) (omega (arith, work-shut_down p)) h in omega (arith, bound);
  given_units = λ p q now b r f h. gives (AtMost p (16 * (1 + length b))) p q now b r (omega arith) (omega (arith, work-half (frame_in b) p f)) (work-input now b p f) h;
  no_threshold = λ p q act h e f. no_threshold p q act (brings_threshold plain_meaning p q act h) (keeps_act p q act h) e f;
}
