-- What each act of an end of the plain association does to the closes of generations.
use Rattle.std.proofs.Common.{◌≡◌, ◌∙◌, ◌+◌, ◌||◌, not, nat_lt, ℕ, cond, Bool, true, false, List, [], ◌∷◌, ◌++◌, drop, length, append-nil, Option, Some, None, Result, refl, sym, ap, arith}
use Rattle.std.specs.declared.alloc.AllocError.{AllocError}
use Rattle.rtc_parts.specs.Ppi.{ppi_number}
use Rattle.rtc_parts.specs.AssociationActs.{AssociationAct, Started, Opened, Wrote, Ended, Given, Taken, Read, Told as ToldEvent, Stirred, Starts, ByConnect, ByAccept, BySnap, Stirs, LimitsSet, ConnectRefused, AcceptRefused, SnapRefused, OpenRefused, WriteRefused, ReadRefused, EndRefused, ThresholdSet, ReliabilitySet, Acted}
use Rattle.rtc_parts.specs.declared.assoc_event.AssocEvent.TheVariants.{Connected}
use Rattle.rtc_parts.specs.Why.{Timed, Shut as ShutDown, Other}
use Rattle.rtc_assoc_state.specs.declared.frame.Frame.{Frame}
use Rattle.rtc_assoc_state.specs.declared.frame.Frame.TheVariants.{Hello, Welcome, Data, Acknowledgement, Shutdown}
use Rattle.rtc_assoc_state.specs.Packets.{frame_in}
use Rattle.rtc_assoc_state.specs.Contents.{Contents, is_server}
use Rattle.rtc_assoc_state.specs.Outbox.{settled_count}
use Rattle.rtc_assoc_state.specs.Settling.{told_of}
use Rattle.rtc_assoc_state.specs.Calls.{limited, connected, accepted, snapped, opened, message_written, next_message, taken_out, stream_ended, thresholded, shut_down, greeted, welcomed, acknowledged, item_came, answered, lost, framed, at_moment, half_taken, event_given, packet_given}
use Rattle.rtc_assoc_state.specs.PlainMeaning.{plain_meaning, open_cause, write_cause, end_cause, stream_cause, ending_cause, Gives, Leaves, Sends, Reads}
use Rattle.rtc_assoc_state.proofs.DoesLemmas.{refused_changes_nothing, does_leaves, gives, times, polls_some, transmits_some, reads_some}
use Rattle.rtc_parts.specs.AssociationNeeds.{need}
use Rattle.rtc_parts.specs.declared.assoc_error.AssocError.{AssocError}
use Rattle.rtc_parts.specs.declared.assoc_error.AssocError.TheVariants.{NoStream, TooLong}
use Rattle.rtc_assoc_state.specs.Contents.{closed_here, generation_of, has_stream}
use Rattle.rtc_run_laws.proofs.ClosingSettled.{settled_keeps}
use Rattle.rtc_run_laws.proofs.ClosingSteps.{EndGo, TakeGo, ghosts_at, go_as, go_at, go_same, take_same}
use Rattle.rtc_run_laws.proofs.ClosingItems.{item_come, take_answered}
use Rattle.rtc_run_laws.proofs.ClosingCalls.{go_opened, go_thresholded, go_ended, go_written, go_connected, go_accepted, go_snapped, go_limited, go_taken_out, go_shut_down, go_timed, go_none}

end_open : (has closed : Bool) (next : Option AssocError) → need (not has || closed) NoStream next ≡ None → closed ≡ false
end_open has false next h = refl
end_open true true next h = absurd (cc)
end_open false true next h = absurd (cc)

-- ---- packets

go_welcomed : (f : Option Frame) (p : Contents) → EndGo f p (welcomed p)
unfolding welcomed
go_welcomed f p = by_role (is_server p.standing.role)
  where
    by_role : (b : Bool) → EndGo f p (cond b (record p { standing = record p.standing { connected = true }; events = p.events ++ (cond p.standing.connected [] (Connected ∷ [])); packets = p.packets ++ (2 ∷ []) ∷ [] }) p)
    by_role true = go_same f p _ refl refl refl refl
    by_role false = go_none f p

go_greeted : (f : Option Frame) (p : Contents) → EndGo f p (greeted p)
unfolding greeted
go_greeted f p = go_same f p (greeted p) refl refl refl refl

go_lost : (f : Option Frame) (p : Contents) → EndGo f p (lost p)
unfolding lost
go_lost f p = go_same f p (lost p) refl refl refl refl

go_acknowledged : (f : Option Frame) (n : ℕ) (p : Contents) → EndGo f p (acknowledged n p)
unfolding acknowledged
go_acknowledged f n p =
    let count = settled_count n p.outbox in
    record {
      count = count;
      more = [];
      got = [];
      acked = refl;
      items = sym (append-nil (drop count p.outbox.items));
      received = omega arith;
      strayed = refl;
      brings = tt;
      fits = λ w r h. tt;
      keeps = λ w r h.
          ghosts_at (acknowledged n p).streams (drop count p.outbox.items) w (w ++ []) r (r ++ []) (append-nil w) (append-nil r)
          (settled_keeps count p.outbox.items (told_of p.streams p.events) w r h);
    }

-- the acknowledgement that a data packet brings, and what came of its item behind it
go_then : (f : Option Frame) (n : ℕ) (p q : Contents) → TakeGo f (acknowledged n (greeted p)) q → EndGo f p q
unfolding acknowledged greeted
go_then f n p q h =
    let count = settled_count n p.outbox in
    record {
      count = count;
      more = h.more;
      got = h.got;
      acked = h.acked;
      items = h.items;
      received = h.received;
      strayed = h.strayed;
      brings = h.brings;
      keeps = λ w r k. h.keeps w r (settled_keeps count p.outbox.items (told_of p.streams (greeted p).events) w r k);
      fits = λ w r k. h.fits w r (settled_keeps count p.outbox.items (told_of p.streams (greeted p).events) w r k);
    }

-- the item of a packet that is next is of the generation that its stream has, once the acknowledgement beside it is taken
abbrev pub InTime : Contents → Option Frame → Type 0
InTime p None = Unit {0}
InTime p (Some Hello) = Unit {0}
InTime p (Some Welcome) = Unit {0}
InTime p (Some (Data n number item)) = number ≡ p.inbox.received + 1 → item.generation ≡ generation_of (acknowledged n (greeted p)) item.stream
InTime p (Some (Acknowledgement n)) = Unit {0}
InTime p (Some Shutdown) = Unit {0}

same_received : (n : ℕ) (p : Contents) → (acknowledged n (greeted p)).inbox.received ≡ p.inbox.received
unfolding acknowledged greeted
same_received n p = refl

go_framed : (now : ℕ) (f : Option Frame) (p : Contents) → InTime p f → EndGo f p (framed now f p)
go_framed now None p timely = go_none None p
go_framed now (Some Hello) p timely = go_welcomed (Some Hello) p
go_framed now (Some Welcome) p timely = go_greeted (Some Welcome) p
go_framed now (Some (Data n number item)) p timely =
    go_then (Some (Data n number item)) n p (answered (item_came now number item (acknowledged n (greeted p))))
    (take_answered (Some (Data n number item)) (acknowledged n (greeted p)) (item_came now number item (acknowledged n (greeted p)))
    (item_come n now number item (acknowledged n (greeted p)) (λ next. timely (next ∙ ap (λ (k : ℕ). k + 1) (same_received n p)))))
go_framed now (Some (Acknowledgement n)) p timely = go_acknowledged (Some (Acknowledgement n)) n p
go_framed now (Some Shutdown) p timely = go_lost (Some Shutdown) p

go_moment : (f : Option Frame) (now : ℕ) (p q : Contents) → EndGo f p q → EndGo f p (at_moment now q)
unfolding at_moment
go_moment f now p q h = go_as f p q (at_moment now q) refl refl refl refl h

go_half : (f : Option Frame) (p : Contents) → EndGo f p (half_taken f p)
go_half None p = go_none None p
go_half (Some Hello) p = go_none (Some Hello) p
go_half (Some Welcome) p = go_none (Some Welcome) p
go_half (Some (Data n number item)) p =
    go_then (Some (Data n number item)) n p (acknowledged n (greeted p))
    (take_same (Some (Data n number item)) (acknowledged n (greeted p)) (acknowledged n (greeted p)) refl refl refl refl)
go_half (Some (Acknowledgement n)) p = go_none (Some (Acknowledgement n)) p
go_half (Some Shutdown) p = go_none (Some Shutdown) p

go_given : (p q : Contents) (now : ℕ) (bytes : List ℕ) (r : Result (Unit {0}) AllocError) → Gives p now bytes r q → InTime p (frame_in bytes) → EndGo (frame_in bytes) p q
go_given p q now bytes r h timely =
    gives (EndGo (frame_in bytes) p) p q now bytes r (go_none (frame_in bytes) p) (go_half (frame_in bytes) p)
    (go_moment (frame_in bytes) now p (framed now (frame_in bytes) p) (go_framed now (frame_in bytes) p timely)) h

-- ---- acts

-- the packet that an act gives
abbrev pub act_frame : AssociationAct → Option Frame
act_frame (Given b) = frame_in b
act_frame _ = None

go_started : (p q : Contents) → Starts plain_meaning p q → EndGo None p q
go_started p q (ByConnect now m h) = go_at None p q (connected now m p) h.1 (go_connected None now m p)
go_started p q (ByAccept now m h) = go_at None p q (accepted now m p) h.1 (go_accepted None now m p)
go_started p q (BySnap now m l o h) = go_at None p q (snapped now m p) h.1 (go_snapped None now m p)

go_unchanged : (p q : Contents) → q ≡ p → EndGo None p q
go_unchanged p q e = go_at None p q p e (go_none None p)

go_stirs : (p q : Contents) → Stirs plain_meaning p q → EndGo None p q
go_stirs p q (LimitsSet n m h) = go_at None p q (limited n m p) h (go_limited None n m p)
go_stirs p q (ConnectRefused now m e s h) = go_unchanged p q (refused_changes_nothing None p q (Leaves (connected now m p)) e h)
go_stirs p q (AcceptRefused now m e s h) = go_unchanged p q (refused_changes_nothing None p q (Leaves (accepted now m p)) e h)
go_stirs p q (SnapRefused now m l o e s h) = go_unchanged p q (refused_changes_nothing None p q (Leaves (snapped now m p)) e h)
go_stirs p q (OpenRefused id e h) = go_unchanged p q (refused_changes_nothing (open_cause p id) p q (Leaves (opened id p)) e h)
go_stirs p q (WriteRefused id i b e h) = go_unchanged p q (refused_changes_nothing (write_cause p id b) p q (λ n o. (n ≡ length b) × Sends p (message_written id (ppi_number i) b p) o) e h)
go_stirs p q (ReadRefused id e h) = go_unchanged p q (refused_changes_nothing (stream_cause p id) p q (λ m o. Reads (next_message id p) id p m o) e h)
go_stirs p q (EndRefused id e h) = go_unchanged p q (refused_changes_nothing {T = Unit {0}} (end_cause p id) p q (λ _ o. Sends p (stream_ended p.clock.now id p) o) e h)
go_stirs p q (ThresholdSet id n r h) = does_leaves (EndGo None p) (stream_cause p id) p (thresholded id n p) q r (go_none None p) (go_thresholded None id n p) h
go_stirs p q (ReliabilitySet id u t n r h) = does_leaves (EndGo None p) (stream_cause p id) p p q r (go_none None p) (go_none None p) h

pub act_go : (p q : Contents) (act : AssociationAct) → Acted plain_meaning p act q → InTime p (act_frame act) → EndGo (act_frame act) p q
act_go p q Started h timely = go_started p q h.1
act_go p q (Opened s n) h timely = go_at None p q (opened s p) h.0.1 (go_opened None s p)
act_go p q (Wrote s n i b) h timely = go_at None p q (message_written s (ppi_number h.0) b p) h.1.1.0.1.1.0
    (go_written None s (ppi_number h.0) b p
    (end_open (has_stream p s) (closed_here p s) (need (nat_lt p.limits.max_send (length b)) TooLong (ending_cause p)) h.1.1.0.0))
act_go p q (Ended s n) h timely = go_at None p q (stream_ended p.clock.now s p) h.0.1.0 (go_ended None p.clock.now s p (end_open (has_stream p s) (closed_here p s) (ending_cause p) h.0.0))
act_go p q (Given b) h timely = go_given p q h.0 b h.1.0 h.1.1 timely
act_go p q (Taken b) h timely =
    let w = transmits_some p.packets p q b h in
    go_at None p q (packet_given w.0.rest p) w.1.1 (go_same None p (packet_given w.0.rest p) refl refl refl refl)
act_go p q (Read s n i b) h timely =
    let w = reads_some (next_message s p) s p q (h.0, b) h.1.0.1 in go_at None p q (taken_out s p) w.1.2 (go_taken_out None s p)
act_go p q (ToldEvent e) h timely =
    let w = polls_some p.events p q e h in
    go_at None p q (event_given w.0.rest p) w.1 (go_same None p (event_given w.0.rest p) refl refl refl refl)
act_go p q (Stirred (Timed now)) h timely = times (EndGo None p) p q now h.0 (go_none None p) (go_timed None now p) h.1
act_go p q (Stirred ShutDown) h timely = does_leaves (EndGo None p) (ending_cause p) p (shut_down p) q h.0 (go_none None p) (go_shut_down None p) h.1
act_go p q (Stirred Other) h timely = go_stirs p q h
