-- What one act does to an end.
use Rattle.std.proofs.Common.{ℕ, ◌≡◌, inl, inr, true, List, [], ◌∷◌, length, Some, None, Result, Ok, Err, refl, sym, ap, subst, ◌∙◌, arith, append-nil}
use Rattle.std.specs.declared.alloc.AllocError.{AllocError}
use Rattle.rtc_parts.specs.declared.assoc_error.AssocError.{AssocError}
use Rattle.rtc_parts.specs.declared.assoc_event.AssocEvent.{AssocEvent}
use Rattle.rtc_parts.specs.declared.ppi.Ppi.{Ppi}
use Rattle.rtc_parts.specs.Ppi.{ppi_number, ppi_of}
use Rattle.rtc_parts.specs.Among.{Member}
use Rattle.rtc_parts.specs.Why.{Timed, Shut as ShutDown, Other}
use Rattle.rtc_parts.specs.AssociationActs.{AssociationAct, Started, Opened, Wrote, Ended, Given, Taken, Read, Told, Stirred, Starts, ByConnect, ByAccept, BySnap, Stirs, LimitsSet, ConnectRefused, AcceptRefused, SnapRefused, OpenRefused, WriteRefused, ReadRefused, EndRefused, ThresholdSet, ReliabilitySet, Acted}
use Rattle.rtc_assoc_state.specs.Packets.{frame_in}
use Rattle.rtc_assoc_state.specs.Streams.{stream_of}
use Rattle.rtc_assoc_state.specs.Contents.{Contents}
use Rattle.rtc_assoc_state.specs.Calls as call
use Rattle.rtc_assoc_state.specs.Calls.{limited, connected, accepted, snapped, started_as, said_hello, opened, next_message, taken_out, thresholded, shut_down, half_taken, input_taken, timed, event_given, packet_given}
use Rattle.rtc_assoc_state.specs.PlainMeaning.{plain_meaning, Leaves, Sends, Reads, Gives, ending_cause, open_cause, write_cause, end_cause, stream_cause}
use Rattle.rtc_assoc_state.proofs.RaiseLemmas.{stream_of-stream}
use Rattle.rtc_assoc_state.proofs.DoesLemmas.{refused_changes_nothing, does_leaves, polls_some, transmits_some, reads_some}
use Rattle.rtc_assoc_end.proofs.SaysLemmas.{queues_same, queues_more, all_say_one, says_hello, says_shutdown}
use Rattle.rtc_assoc.proofs.AliveLemmas.{RowOf, alive-put_row}
use Rattle.rtc_assoc.proofs.ArriveLemmas.{gets_none}
use Rattle.rtc_assoc.proofs.FrameLemmas.{FrameCore, frame_quiet, frame_framed, frame_half, packets_half}
use Rattle.rtc_assoc.proofs.CoreLemmas.{Core, Step, core_at, core_quiet, quiet_step, quiet_started, quiet_opened, quiet_told, quiet_timed, quiet_shut, quiet_other, core_written, core_ended, ppi_number-ppi_of, core_read}

-- the starting calls
step_connected : (p q : Contents) (now max_send : ℕ) → q ≡ connected now max_send p → Step p Started q
unfolding started_as said_hello
step_connected p q now max_send e = record {
  core = core_at p q (connected now max_send p) Started e (core_quiet p (connected now max_send p) Started quiet_started refl refl (λ s g. refl));
  queues = queues_more p q ((1 ∷ []) ∷ []) (ap (λ (x : Contents). x.packets) e) (all_say_one q (1 ∷ []) (says_hello q));
}

step_accepted : (p q : Contents) (now max_send : ℕ) → q ≡ accepted now max_send p → Step p Started q
unfolding started_as
step_accepted p q now max_send e = record {
  core = core_at p q (accepted now max_send p) Started e (core_quiet p (accepted now max_send p) Started quiet_started refl refl (λ s g. refl));
  queues = queues_same p q (ap (λ (x : Contents). x.packets) e);
}

step_snapped : (p q : Contents) (now max_send : ℕ) → q ≡ snapped now max_send p → Step p Started q
unfolding snapped started_as
step_snapped p q now max_send e = record {
  core = core_at p q (snapped now max_send p) Started e (core_quiet p (snapped now max_send p) Started quiet_started refl refl (λ s g. refl));
  queues = queues_same p q (ap (λ (x : Contents). x.packets) e);
}

step_started : (p q : Contents) → Starts plain_meaning p q → Step p Started q
step_started p q (ByConnect now m h) = step_connected p q now m h.1
step_started p q (ByAccept now m h) = step_accepted p q now m h.1
step_started p q (BySnap now m l o h) = step_snapped p q now m h.1

-- opening
step_opened : (p q : Contents) (id h : ℕ) → q ≡ opened id p → Step p (Opened id h) q
unfolding opened
step_opened p q id h e =
    let row : RowOf id (record (stream_of id p.streams) { there = true }) p.streams = record { stream_is = stream_of-stream id p.streams; generation_is = refl; close_is = refl } in
    record {
      core = core_at p q (opened id p) (Opened id h) e (core_quiet p (opened id p) (Opened id h) (quiet_opened id h) refl refl (alive-put_row id (record (stream_of id p.streams) { there = true }) p.streams row));
      queues = queues_same p q (ap (λ (x : Contents). x.packets) e);
    }

packets_out : (id : ℕ) (p : Contents) → (taken_out id p).packets ≡ p.packets
unfolding taken_out
packets_out id p = refl

step_read : (p q : Contents) (id h i : ℕ) (bytes : List ℕ) (ppi : Ppi) → Reads (next_message id p) id p (Some (ppi, bytes)) q → i ≡ ppi_number ppi → h ≡ (stream_of id p.streams).generation → Step p (Read id h i bytes) q
step_read p q id h i bytes ppi r n k =
    let w = reads_some (next_message id p) id p q (ppi, bytes) r in
    let first : ppi ≡ ppi_of w.0.identifier = ap (λ (x : Ppi × List ℕ). x.0) w.1.1 in
    let second : bytes ≡ w.0.bytes = ap (λ (x : Ppi × List ℕ). x.1) w.1.1 in
    record {
      core = core_at p q (taken_out id p) (Read id h i bytes) w.1.2 (core_read p id h i bytes w.0 w.1.0 (n ∙ ap ppi_number first ∙ ppi_number-ppi_of w.0.identifier) second k);
      queues = queues_same p q (ap (λ (x : Contents). x.packets) w.1.2 ∙ packets_out id p);
    }

-- polling
step_taken : (p q : Contents) (b : List ℕ) (rest : List (List ℕ)) → p.packets ≡ b ∷ rest → q ≡ packet_given rest p → Step p (Taken b) q
step_taken p q b rest e f = record {
  core = core_at p q (packet_given rest p) (Taken b) f (record {
    count = 0;
    more = [];
    got = [];
    causes = (refl, refl, subst (λ (l : List (List ℕ)). Member b l) (sym e) (inl refl));
    within = omega arith;
    acked = omega arith;
    items = sym (append-nil p.outbox.items);
    wrote = λ s g. refl;
    whole = λ s g. refl;
    gets = gets_none p.inbox p.streams p.streams (λ s g. refl);
    closes = λ s g c. absurd c;
    dies = λ s g d. inl d;
  });
  queues = record {
    each = λ packet m. inl (subst (λ (l : List (List ℕ)). Member packet l) (sym e) (inr (subst (λ (l : List (List ℕ)). Member packet l) (ap (λ (x : Contents). x.packets) f) m)));
  };
}

step_told : (p q : Contents) (event : AssocEvent) (rest : List AssocEvent) → q ≡ event_given rest p → Step p (Told event) q
step_told p q event rest f = record {
  core = core_at p q (event_given rest p) (Told event) f (core_quiet p (event_given rest p) (Told event) (quiet_told event) refl refl (λ s g. refl));
  queues = queues_same p q (ap (λ (x : Contents). x.packets) f);
}

-- time that passes
core_timed : (p : Contents) (now : ℕ) → Core p (Stirred (Timed now)) (timed now p)
unfolding timed
core_timed p now = core_quiet p (timed now p) (Stirred (Timed now)) (quiet_timed now) refl refl (λ s g. refl)

step_timed : (p q : Contents) (now : ℕ) (r : Result (Unit {0}) AllocError) → plain_meaning.timed p now r q → Step p (Stirred (Timed now)) q
step_timed p q now (Ok x) h = record { core = core_at p q (timed now p) (Stirred (Timed now)) h.0 (core_timed p now); queues = h.1 }
step_timed p q now (Err e) h = quiet_step p q (Stirred (Timed now)) (quiet_timed now) h

-- shutting down
step_shut_down : (p q : Contents) → q ≡ shut_down p → Step p (Stirred ShutDown) q
unfolding shut_down
step_shut_down p q e = record {
  core = core_at p q (shut_down p) (Stirred ShutDown) e (core_quiet p (shut_down p) (Stirred ShutDown) quiet_shut refl refl (λ s g. refl));
  queues = queues_more p q ((5 ∷ []) ∷ []) (ap (λ (x : Contents). x.packets) e) (all_say_one q (5 ∷ []) (says_shutdown q));
}

step_shut : (p q : Contents) (r : Result (Unit {0}) AssocError) → plain_meaning.shut p r q → Step p (Stirred ShutDown) q
step_shut p q (Ok x) h = step_shut_down p q h.1
step_shut p q (Err e) h = quiet_step p q (Stirred ShutDown) quiet_shut (refused_changes_nothing (ending_cause p) p q (Leaves (shut_down p)) e h)

-- calls that neither give nor take anything
step_limited : (p q : Contents) (n m : ℕ) → q ≡ limited n m p → Step p (Stirred Other) q
unfolding limited
step_limited p q n m e = record {
  core = core_at p q (limited n m p) (Stirred Other) e (core_quiet p (limited n m p) (Stirred Other) quiet_other refl refl (λ s g. refl));
  queues = queues_same p q (ap (λ (x : Contents). x.packets) e);
}

step_thresholded : (p q : Contents) (id n : ℕ) → q ≡ thresholded id n p → Step p (Stirred Other) q
unfolding thresholded
step_thresholded p q id n e =
    let row : RowOf id (record (stream_of id p.streams) { threshold = Some n }) p.streams = record { stream_is = stream_of-stream id p.streams; generation_is = refl; close_is = refl } in
    record {
      core = core_at p q (thresholded id n p) (Stirred Other) e (core_quiet p (thresholded id n p) (Stirred Other) quiet_other refl refl (alive-put_row id (record (stream_of id p.streams) { threshold = Some n }) p.streams row));
      queues = queues_same p q (ap (λ (x : Contents). x.packets) e);
    }

step_threshold : (p q : Contents) (id n : ℕ) (r : Result (Unit {0}) AssocError) → plain_meaning.threshold_set p id n r q → Step p (Stirred Other) q
step_threshold p q id n (Ok x) h = step_thresholded p q id n h.1
step_threshold p q id n (Err e) h = quiet_step p q (Stirred Other) quiet_other (refused_changes_nothing (stream_cause p id) p q (Leaves (thresholded id n p)) e h)

step_stirs : (p q : Contents) → Stirs plain_meaning p q → Step p (Stirred Other) q
step_stirs p q (LimitsSet n m h) = step_limited p q n m h
step_stirs p q (ConnectRefused now m e s h) = quiet_step p q (Stirred Other) quiet_other (refused_changes_nothing None p q (Leaves (connected now m p)) e h)
step_stirs p q (AcceptRefused now m e s h) = quiet_step p q (Stirred Other) quiet_other (refused_changes_nothing None p q (Leaves (accepted now m p)) e h)
step_stirs p q (SnapRefused now m l o e s h) = quiet_step p q (Stirred Other) quiet_other (refused_changes_nothing None p q (Leaves (snapped now m p)) e h)
step_stirs p q (OpenRefused id e h) = quiet_step p q (Stirred Other) quiet_other (refused_changes_nothing (open_cause p id) p q (Leaves (opened id p)) e h)
step_stirs p q (WriteRefused id i b e h) = quiet_step p q (Stirred Other) quiet_other (refused_changes_nothing (write_cause p id b) p q (λ n o. (n ≡ length b) × Sends p (call.message_written id (ppi_number i) b p) o) e h)
step_stirs p q (ReadRefused id e h) = quiet_step p q (Stirred Other) quiet_other (refused_changes_nothing (stream_cause p id) p q (λ m o. Reads (next_message id p) id p m o) e h)
step_stirs p q (EndRefused id e h) = quiet_step p q (Stirred Other) quiet_other (refused_changes_nothing {T = Unit {0}} (end_cause p id) p q (λ _ o. Sends p (call.stream_ended p.clock.now id p) o) e h)
step_stirs p q (ThresholdSet id n r h) = step_threshold p q id n r h
step_stirs p q (ReliabilitySet id u t n r h) = does_leaves (λ (x : Contents). Step p (Stirred Other) x) (stream_cause p id) p p q r (quiet_step p p (Stirred Other) quiet_other refl) (quiet_step p p (Stirred Other) quiet_other refl) h

core_given : (p q : Contents) (b : List ℕ) → FrameCore p (frame_in b) q → Core p (Given b) q
core_given p q b h = record {
  count = h.count;
  more = h.more;
  got = h.got;
  causes = (h.acknowledges, h.brings);
  within = h.within;
  acked = h.acked;
  items = h.items;
  wrote = h.silent;
  whole = h.whole;
  gets = h.gets;
  closes = λ s g c. inr (h.closes s g c);
  dies = λ s g d. elim (h.dies s g d) [ inl k ↦ inl k | inr k ↦ inr (inr k) ];
}

step_given : (p q : Contents) (now : ℕ) (b : List ℕ) (r : Result (Unit {0}) AllocError) → Gives p now b r q → Step p (Given b) q
step_given p q now b (Ok x) h = record { core = core_at p q (input_taken now b p) (Given b) h.0 (core_given p (input_taken now b p) b (frame_framed now (frame_in b) p)); queues = h.1 }
step_given p q now b (Err e) (inl h) = record { core = core_at p q p (Given b) h (core_given p p b (frame_quiet p p (frame_in b) refl refl refl)); queues = queues_same p q (ap (λ (x : Contents). x.packets) h) }
step_given p q now b (Err e) (inr h) = record {
  core = core_at p q (half_taken (frame_in b) p) (Given b) h (core_given p (half_taken (frame_in b) p) b (frame_half (frame_in b) p));
  queues = queues_same p q (ap (λ (x : Contents). x.packets) h ∙ packets_half (frame_in b) p);
}

-- each act is a step
pub step_of : (p q : Contents) (act : AssociationAct) → Acted plain_meaning p act q → Step p act q
step_of p q Started h = step_started p q h.1
step_of p q (Opened id g) h = step_opened p q id g h.0.1
step_of p q (Wrote id g i b) h =
    let r = call.message_written id (ppi_number h.0) b p in
    record {
      core = core_at p q r (Wrote id g i b) h.1.1.0.1.1.0 (subst (λ (k : ℕ). Core p (Wrote id g k b) r) (sym h.1.1.1) (core_written p id g (ppi_number h.0) b h.1.1.2));
      queues = h.1.1.0.1.1.1;
    }
step_of p q (Ended id g) h = record {
  core = core_at p q (call.stream_ended p.clock.now id p) (Ended id g) h.0.1.0 (core_ended p p.clock.now id g h.1);
  queues = h.0.1.1;
}
step_of p q (Given b) h = step_given p q h.0 b h.1.0 h.1.1
step_of p q (Taken b) h = let w = transmits_some p.packets p q b h in step_taken p q b w.0.rest w.0.is w.1.1
step_of p q (Read id g i b) h = step_read p q id g i b h.0 h.1.0.1 h.1.1 h.1.2
step_of p q (Told e) h = let w = polls_some p.events p q e h in step_told p q e w.0.rest w.1
step_of p q (Stirred (Timed now)) h = step_timed p q now h.0 h.1
step_of p q (Stirred ShutDown) h = step_shut p q h.0 h.1
step_of p q (Stirred Other) h = step_stirs p q h
