-- The plain association comes to another generation of a stream by packets alone.
use Rattle.std.proofs.Common.{◌≡◌, ◌⊎◌, inl, inr, ℕ, ◌<◌, ◌≤◌, ◌||◌, not, Bool, true, false, List, length, Some, None, refl, sym, ap, subst, ◌∙◌, arith}
use Rattle.rtc_parts.specs.Ppi.{ppi_number}
use Rattle.rtc_parts.specs.AssociationActs.{AssociationAct, Started, Opened, Wrote, Ended, Given, Taken, Read, Told as ToldEvent, Stirred, Starts, ByConnect, ByAccept, BySnap, Stirs, LimitsSet, ConnectRefused, AcceptRefused, SnapRefused, OpenRefused, WriteRefused, ReadRefused, EndRefused, ThresholdSet, ReliabilitySet, Acted}
use Rattle.rtc_parts.specs.Why.{Timed, Shut as ShutDown, Other}
use Rattle.rtc_assoc_state.specs.declared.close_state.CloseState.TheVariants.{Queued}
use Rattle.rtc_assoc_state.specs.declared.stream_row.StreamRow.{StreamRow}
use Rattle.rtc_assoc_state.specs.Contents.{Contents, few_numbers_left, is_closing, is_closed, has_stream, has_unread, closed_here, generation_of}
use Rattle.rtc_assoc_state.specs.Streams.{stream_of, put, is_closed_here, any_at_last_generation}
use Rattle.rtc_assoc_state.specs.Inbox.{is_message_of}
use Rattle.rtc_assoc_state.specs.Outbox.{Outbox, last_number}
use Rattle.rtc_assoc_state.specs.Calls.{limited, started_as, said_hello, connected, accepted, snapped, opened, sent, message_written, next_message, taken_out, stream_ended, thresholded, shut_down, timed, event_given, packet_given}
use Rattle.rtc_assoc_state.specs.PlainMeaning.{plain_meaning, open_cause, write_cause, end_cause, stream_cause, ending_cause, Leaves, Sends, Reads}
use Rattle.rtc_assoc_state.proofs.RaiseLemmas.{stream_of-stream, stream_of-put, generation-put, own_generation}
use Rattle.rtc_assoc_state.proofs.ReadableLemmas.{any-filter, any-taken}
use Rattle.rtc_assoc_state.proofs.DoesLemmas.{refused_changes_nothing, does_leaves, times, polls_some, transmits_some, reads_some}
use Rattle.rtc_sctp_laws.specs.GenerationLaws.{gives_packet, KeepsGeneration, GenerationLaws}
use Rattle.rtc_sctp_laws.proofs.RowsGo.{RowStays}
use Rattle.rtc_sctp_laws.proofs.GoingEnds.{EndGoes, goes_accepted, goes_connected, goes_ended, goes_given, goes_limited, goes_none, goes_opened, goes_same, goes_sent, goes_shut_down, goes_snapped, goes_taken_out, goes_thresholded, goes_timed}

-- acts that give no packet keep the generation of each stream, and no more stands unread behind them
pub record Stays (p q : Contents) : Type 0 where
  pub goes : EndGoes p q
  pub same : (s : ℕ) → generation_of q s ≡ generation_of p s
  pub fewer : (s g : ℕ) → has_unread q s g ≡ true → has_unread p s g ≡ true

stays_none : (p : Contents) → Stays p p
stays_none p = record { goes = goes_none p; same = λ s. refl; fewer = λ s g h. h }

stays_at : (p q r : Contents) → q ≡ r → Stays p r → Stays p q
stays_at p q r e h = subst (Stays p) (sym e) h

stays_opened : (id : ℕ) (p : Contents) → Stays p (opened id p)
unfolding opened
stays_opened id p = record { goes = goes_opened id p; same = generation-put (record (stream_of id p.streams) { there = true }) p.streams (own_generation id p.streams); fewer = λ s g h. h }

stays_thresholded : (id n : ℕ) (p : Contents) → Stays p (thresholded id n p)
unfolding thresholded
stays_thresholded id n p = record { goes = goes_thresholded id n p; same = generation-put (record (stream_of id p.streams) { threshold = Some n }) p.streams (own_generation id p.streams); fewer = λ s g h. h }

stays_ended : (now id : ℕ) (p : Contents) → Stays p (stream_ended now id p)
unfolding stream_ended sent
stays_ended now id p = record { goes = goes_ended now id p; same = generation-put (record (stream_of id p.streams) { close = Queued }) p.streams (own_generation id p.streams); fewer = λ s g h. any-filter (is_message_of s g) (λ m. not (is_message_of id (stream_of id p.streams).generation m)) p.inbox.unread h }

stays_written : (id i : ℕ) (bytes : List ℕ) (p : Contents) → Stays p (message_written id i bytes p)
unfolding sent
stays_written id i bytes p = record { goes = goes_sent p.clock.now _ p; same = λ s. refl; fewer = λ s g h. h }

stays_connected : (now m : ℕ) (p : Contents) → Stays p (connected now m p)
unfolding started_as said_hello
stays_connected now m p = record { goes = goes_connected now m p; same = λ s. refl; fewer = λ s g h. h }

stays_accepted : (now m : ℕ) (p : Contents) → Stays p (accepted now m p)
unfolding started_as
stays_accepted now m p = record { goes = goes_accepted now m p; same = λ s. refl; fewer = λ s g h. h }

stays_snapped : (now m : ℕ) (p : Contents) → Stays p (snapped now m p)
unfolding snapped started_as
stays_snapped now m p = record { goes = goes_snapped now m p; same = λ s. refl; fewer = λ s g h. h }

stays_limited : (n m : ℕ) (p : Contents) → Stays p (limited n m p)
unfolding limited
stays_limited n m p = record { goes = goes_limited n m p; same = λ s. refl; fewer = λ s g h. h }

stays_taken_out : (id : ℕ) (p : Contents) → Stays p (taken_out id p)
unfolding taken_out
stays_taken_out id p = record { goes = goes_taken_out id p; same = λ s. refl; fewer = λ s g h. any-taken (is_message_of s g) id (stream_of id p.streams).generation p.inbox.unread h }

stays_shut_down : (p : Contents) → Stays p (shut_down p)
unfolding shut_down
stays_shut_down p = record { goes = goes_shut_down p; same = λ s. refl; fewer = λ s g h. h }

stays_timed : (now : ℕ) (p : Contents) → Stays p (timed now p)
unfolding timed
stays_timed now p = record { goes = goes_timed now p; same = λ s. refl; fewer = λ s g h. h }

stays_started : (p q : Contents) → Starts plain_meaning p q → Stays p q
stays_started p q (ByConnect now m h) = stays_at p q (connected now m p) h.1 (stays_connected now m p)
stays_started p q (ByAccept now m h) = stays_at p q (accepted now m p) h.1 (stays_accepted now m p)
stays_started p q (BySnap now m l o h) = stays_at p q (snapped now m p) h.1 (stays_snapped now m p)

stays_same : (p q : Contents) → q ≡ p → Stays p q
stays_same p q e = stays_at p q p e (stays_none p)

stays_stirs : (p q : Contents) → Stirs plain_meaning p q → Stays p q
stays_stirs p q (LimitsSet n m h) = stays_at p q (limited n m p) h (stays_limited n m p)
stays_stirs p q (ConnectRefused now m e s h) = stays_same p q (refused_changes_nothing None p q (Leaves (connected now m p)) e h)
stays_stirs p q (AcceptRefused now m e s h) = stays_same p q (refused_changes_nothing None p q (Leaves (accepted now m p)) e h)
stays_stirs p q (SnapRefused now m l o e s h) = stays_same p q (refused_changes_nothing None p q (Leaves (snapped now m p)) e h)
stays_stirs p q (OpenRefused id e h) = stays_same p q (refused_changes_nothing (open_cause p id) p q (Leaves (opened id p)) e h)
stays_stirs p q (WriteRefused id i b e h) = stays_same p q (refused_changes_nothing (write_cause p id b) p q (λ n o. (n ≡ length b) × Sends p (message_written id (ppi_number i) b p) o) e h)
stays_stirs p q (ReadRefused id e h) = stays_same p q (refused_changes_nothing (stream_cause p id) p q (λ m o. Reads (next_message id p) id p m o) e h)
stays_stirs p q (EndRefused id e h) = stays_same p q (refused_changes_nothing {T = Unit {0}} (end_cause p id) p q (λ _ o. Sends p (stream_ended p.clock.now id p) o) e h)
stays_stirs p q (ThresholdSet id n r h) = does_leaves (Stays p) (stream_cause p id) p (thresholded id n p) q r (stays_none p) (stays_thresholded id n p) h
stays_stirs p q (ReliabilitySet id u t n r h) = does_leaves (Stays p) (stream_cause p id) p p q r (stays_none p) (stays_none p) h

no_packet : true ≡ false → ⊥
no_packet e = cc

pub stays_act : (p q : Contents) (act : AssociationAct) → gives_packet act ≡ false → Acted plain_meaning p act q → Stays p q
stays_act p q Started g h = stays_started p q h.1
stays_act p q (Opened s n) g h = stays_at p q (opened s p) h.0.1 (stays_opened s p)
stays_act p q (Wrote s n i b) g h = stays_at p q (message_written s (ppi_number h.0) b p) h.1.1.0.1.1.0 (stays_written s (ppi_number h.0) b p)
stays_act p q (Ended s n) g h = stays_at p q (stream_ended p.clock.now s p) h.0.1.0 (stays_ended p.clock.now s p)
stays_act p q (Given b) g h = absurd (no_packet g)
stays_act p q (Taken b) g h = let w = transmits_some p.packets p q b h in stays_at p q (packet_given w.0.rest p) w.1.1 (record { goes = goes_same p (packet_given w.0.rest p) refl refl refl refl refl; same = λ s. refl; fewer = λ s g h. h })
stays_act p q (Read s n i b) g h = let w = reads_some (next_message s p) s p q (h.0, b) h.1.0.1 in stays_at p q (taken_out s p) w.1.2 (stays_taken_out s p)
stays_act p q (ToldEvent e) g h = let w = polls_some p.events p q e h in stays_at p q (event_given w.0.rest p) w.1 (record { goes = goes_same p (event_given w.0.rest p) refl refl refl refl refl; same = λ s. refl; fewer = λ s g h. h })
stays_act p q (Stirred (Timed now)) g h = times (Stays p) p q now h.0 (stays_none p) (stays_timed now p) h.1
stays_act p q (Stirred ShutDown) g h = does_leaves (Stays p) (ending_cause p) p (shut_down p) q h.0 (stays_none p) (stays_shut_down p) h.1
stays_act p q (Stirred Other) g h = stays_stirs p q h

-- what that is by the readings of the association
few_more : (a b : Outbox) → last_number a ≤ last_number b → few_numbers_left a ≡ true → few_numbers_left b ≡ true
few_more a b le h = grind (arith, le, h)

ends_more : (p q : Contents) → EndGoes p q → (is_closing p || is_closed p) ≡ true → (is_closing q || is_closed q) ≡ true
ends_more p q g h = by_lost p.standing.lost refl (λ k. closing_by (or_cases _ _ k))
  where
    or_left : (a b : Bool) → a ≡ true → (a || b) ≡ true
    or_left a b e = rw e refl

    or_right : (a b : Bool) → b ≡ true → (a || b) ≡ true
    or_right true b e = refl
    or_right false b e = e

    or_cases : (a b : Bool) → (a || b) ≡ true → (a ≡ true) ⊎ (b ≡ true)
    or_cases true b e = inl refl
    or_cases false b e = inr e

    from_shut : (p.standing.shut ≡ true) ⊎ (few_numbers_left p.outbox ≡ true) → (q.standing.shut || few_numbers_left q.outbox) ≡ true
    from_shut (inl e) = or_left _ _ (g.shut e)
    from_shut (inr e) = or_right q.standing.shut _ (few_more p.outbox q.outbox g.numbers e)

    closing_by : ((p.standing.shut || few_numbers_left p.outbox) ≡ true) ⊎ (any_at_last_generation p.streams ≡ true) → is_closing q ≡ true
    closing_by (inl e) = or_left _ _ (from_shut (or_cases _ _ e))
    closing_by (inr e) = or_right (q.standing.shut || few_numbers_left q.outbox) _ (g.rows.any e)

    by_lost : (b : Bool) → p.standing.lost ≡ b → (is_closing p ≡ true → is_closing q ≡ true) → (is_closing q || is_closed q) ≡ true
    by_lost true e closing = or_right (is_closing q) _ (g.lost e)
    by_lost false e closing = or_left _ _ (closing (left (is_closing p) (ap (λ (b : Bool). is_closing p || b) (sym e) ∙ h)))
      where
        left : (a : Bool) → (a || false) ≡ true → a ≡ true
        left true k = refl
        left false k = k

keeps_goes : (s : ℕ) (p q : Contents) → EndGoes p q → generation_of q s ≡ generation_of p s → KeepsGeneration plain_meaning s p q
keeps_goes s p q g e = by (g.rows.each s).goes
  where
    by : RowStays (stream_of s p.streams) (stream_of s q.streams) ⊎ ((stream_of s p.streams).generation < (stream_of s q.streams).generation) → KeepsGeneration plain_meaning s p q
    by (inl k) = record { generation_is = e; there = k.there; closed = k.closed; ending = λ h. ends_more p q g h }
    by (inr k) = absurd (omega (arith, e, k))

-- a stream that is opened is there, and one that is ended is closed
opened_there : (s : ℕ) (p q : Contents) → q ≡ opened s p → has_stream q s ≡ true
unfolding opened
opened_there s p q e =
    ap (λ (x : Contents). (stream_of s x.streams).there) e
    ∙ ap (λ (k : ℕ). (stream_of k (put (record (stream_of s p.streams) { there = true }) p.streams)).there) (sym (stream_of-stream s p.streams))
    ∙ ap (λ (r : StreamRow). r.there) (stream_of-put (record (stream_of s p.streams) { there = true }) p.streams)

ended_closed : (s now : ℕ) (p q : Contents) → q ≡ stream_ended now s p → closed_here q s ≡ true
unfolding stream_ended sent
ended_closed s now p q e =
    ap (λ (x : Contents). is_closed_here (stream_of s x.streams)) e
    ∙ ap (λ (k : ℕ). is_closed_here (stream_of k (put (record (stream_of s p.streams) { close = Queued }) p.streams))) (sym (stream_of-stream s p.streams))
    ∙ ap is_closed_here (stream_of-put (record (stream_of s p.streams) { close = Queued }) p.streams)

pub plain_generations : GenerationLaws plain_meaning
plain_generations = record {
  acts_keep = λ s a b act g h. let k = stays_act a b act g h in keeps_goes s a b k.goes (k.same s);
  packets_keep = λ s now bytes a b r h e. keeps_goes s a b (goes_given a b now bytes r h) e;
  opens = λ s a b h. opened_there s a b h.1;
  ends = λ s a b h. ended_closed s a.clock.now a b h.1.0;
  sound = λ s a b h. h;
}
