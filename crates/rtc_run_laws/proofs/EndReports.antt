-- Whether an end of the plain association is connected, and what it has to report, by acts without a packet; and that an item which is not
-- counted leaves it.
use Rattle.std.proofs.Common.{◌≡◌, ◌∙◌, ◌⊎◌, inl, inr, ◌+◌, ◌++◌, ◌∷◌, ◌==◌, ◌&&◌, ◌||◌, not, cond, ℕ, Bool, true, false, true≢false, List, [], length, Option, Some, None, Result, refl, sym, ap, subst, arith}
use Rattle.std.specs.declared.alloc.AllocError.{AllocError}
use Rattle.rtc_parts.specs.Why.{Timed, Shut as ShutDown, Other}
use Rattle.rtc_parts.specs.declared.assoc_event.AssocEvent.{AssocEvent}
use Rattle.rtc_parts.specs.declared.assoc_event.AssocEvent.TheVariants.{Connected}
use Rattle.rtc_parts.specs.Ppi.{ppi_number}
use Rattle.rtc_parts.specs.AssociationActs.{AssociationAct, Started, Opened, Wrote, Ended, Given, Taken, Read, Told as ToldEvent, Stirred, Starts, ByConnect, ByAccept, BySnap, Stirs, LimitsSet, ConnectRefused, AcceptRefused, SnapRefused, OpenRefused, WriteRefused, ReadRefused, EndRefused, ThresholdSet, ReliabilitySet, Acted}
use Rattle.rtc_assoc_state.specs.declared.item.Item.{Item}
use Rattle.rtc_assoc_state.specs.declared.frame.Frame.{Frame}
use Rattle.rtc_assoc_state.specs.declared.frame.Frame.TheVariants.{Hello, Welcome, Data, Acknowledgement, Shutdown}
use Rattle.rtc_assoc_state.specs.Packets.{frame_in}
use Rattle.rtc_assoc_state.specs.Contents.{Contents, is_client, is_ending, is_server, is_started}
use Rattle.rtc_assoc_state.specs.Calls.{limited, started_as, said_hello, connected, accepted, snapped, opened, sent, message_written, next_message, taken_out, stream_ended, thresholded, shut_down, timed, greeted, welcomed, acknowledged, item_taken, item_came, answered, lost, framed, at_moment, half_taken, packet_given}
use Rattle.rtc_assoc_state.specs.PlainMeaning.{plain_meaning, open_cause, write_cause, end_cause, stream_cause, ending_cause, Gives, Leaves, Sends, Reads}
use Rattle.rtc_assoc_state.proofs.DoesLemmas.{refused_changes_nothing, does_leaves, gives, times, polls_some, transmits_some, reads_some}
use Rattle.rtc_sctp_laws.specs.GenerationLaws.{gives_packet}
use Rattle.rtc_run_laws.proofs.CountedItems.{counted_item}

-- whether an end is connected
abbrev pub is_connected : Contents → Bool
is_connected p = p.standing.connected

-- ---- acts without a packet

-- it stays connected, is connected by a start alone, and no event is added
pub record Reports (p q : Contents) : Type 0 where
  pub rises : is_connected p ≡ true → is_connected q ≡ true
  pub still : is_started p ≡ true → is_connected q ≡ is_connected p
  pub events : (q.events ≡ p.events) ⊎ ((e : AssocEvent) × (p.events ≡ e ∷ q.events))

reports_alike : (p q : Contents) → q.events ≡ p.events → is_connected q ≡ is_connected p → Reports p q
reports_alike p q events same = record { rises = λ e. same ∙ e; still = λ s. same; events = inl events }

reports_none : (p : Contents) → Reports p p
reports_none p = reports_alike p p refl refl

reports_at : (p q r : Contents) → q ≡ r → Reports p r → Reports p q
reports_at p q r e h = subst (λ (x : Contents). Reports p x) (sym e) h

of_opened : (id : ℕ) (p : Contents) → Reports p (opened id p)
unfolding opened
of_opened id p = reports_alike p (opened id p) refl refl

of_thresholded : (id n : ℕ) (p : Contents) → Reports p (thresholded id n p)
unfolding thresholded
of_thresholded id n p = reports_alike p (thresholded id n p) refl refl

of_ended : (now id : ℕ) (p : Contents) → Reports p (stream_ended now id p)
unfolding stream_ended sent
of_ended now id p = reports_alike p (stream_ended now id p) refl refl

of_written : (id i : ℕ) (bytes : List ℕ) (p : Contents) → Reports p (message_written id i bytes p)
unfolding sent
of_written id i bytes p = reports_alike p (message_written id i bytes p) refl refl

of_limited : (n l : ℕ) (p : Contents) → Reports p (limited n l p)
unfolding limited
of_limited n l p = reports_alike p (limited n l p) refl refl

of_taken_out : (id : ℕ) (p : Contents) → Reports p (taken_out id p)
unfolding taken_out
of_taken_out id p = reports_alike p (taken_out id p) refl refl

of_shut_down : (p : Contents) → Reports p (shut_down p)
unfolding shut_down
of_shut_down p = reports_alike p (shut_down p) refl refl

of_timed : (now : ℕ) (p : Contents) → Reports p (timed now p)
unfolding timed
of_timed now p = reports_alike p (timed now p) refl refl

of_connected : (now n : ℕ) (p : Contents) → Reports p (connected now n p)
unfolding started_as said_hello
of_connected now n p = reports_alike p (connected now n p) refl refl

of_accepted : (now n : ℕ) (p : Contents) → Reports p (accepted now n p)
unfolding started_as
of_accepted now n p = reports_alike p (accepted now n p) refl refl

of_snapped : (now n : ℕ) (p : Contents) → is_started p ≡ false → Reports p (snapped now n p)
unfolding snapped started_as
of_snapped now n p fresh = record { rises = λ e. refl; still = λ s. absurd (true≢false (sym s ∙ fresh)); events = inl refl }

of_start : (p q : Contents) → is_started p ≡ false → Starts plain_meaning p q → Reports p q
of_start p q fresh (ByConnect now n h) = reports_at p q (connected now n p) h.1 (of_connected now n p)
of_start p q fresh (ByAccept now n h) = reports_at p q (accepted now n p) h.1 (of_accepted now n p)
of_start p q fresh (BySnap now n l o h) = reports_at p q (snapped now n p) h.1 (of_snapped now n p fresh)

of_none : (p q : Contents) → q ≡ p → Reports p q
of_none p q e = reports_at p q p e (reports_none p)

of_stirs : (p q : Contents) → Stirs plain_meaning p q → Reports p q
of_stirs p q (LimitsSet n l h) = reports_at p q (limited n l p) h (of_limited n l p)
of_stirs p q (ConnectRefused now n e s h) = of_none p q (refused_changes_nothing None p q (Leaves (connected now n p)) e h)
of_stirs p q (AcceptRefused now n e s h) = of_none p q (refused_changes_nothing None p q (Leaves (accepted now n p)) e h)
of_stirs p q (SnapRefused now n l o e s h) = of_none p q (refused_changes_nothing None p q (Leaves (snapped now n p)) e h)
of_stirs p q (OpenRefused id e h) = of_none p q (refused_changes_nothing (open_cause p id) p q (Leaves (opened id p)) e h)
of_stirs p q (WriteRefused id i b e h) =
    of_none p q (refused_changes_nothing (write_cause p id b) p q (λ n o. (n ≡ length b) × Sends p (message_written id (ppi_number i) b p) o) e h)
of_stirs p q (ReadRefused id e h) = of_none p q (refused_changes_nothing (stream_cause p id) p q (λ x o. Reads (next_message id p) id p x o) e h)
of_stirs p q (EndRefused id e h) =
    of_none p q (refused_changes_nothing {T = Unit {0}} (end_cause p id) p q (λ _ o. Sends p (stream_ended p.clock.now id p) o) e h)
of_stirs p q (ThresholdSet id n r h) =
    does_leaves (λ x. Reports p x) (stream_cause p id) p (thresholded id n p) q r (reports_none p) (of_thresholded id n p) h
of_stirs p q (ReliabilitySet id u t n r h) = does_leaves (λ x. Reports p x) (stream_cause p id) p p q r (reports_none p) (reports_none p) h

pub no_packet : true ≡ false → ⊥
no_packet e = cc

pub act_reports : (p q : Contents) (act : AssociationAct) → gives_packet act ≡ false → Acted plain_meaning p act q → Reports p q
act_reports p q Started g h = of_start p q h.0 h.1
act_reports p q (Opened s n) g h = reports_at p q (opened s p) h.0.1 (of_opened s p)
act_reports p q (Wrote s n i b) g h = reports_at p q (message_written s (ppi_number h.0) b p) h.1.1.0.1.1.0 (of_written s (ppi_number h.0) b p)
act_reports p q (Ended s n) g h = reports_at p q (stream_ended p.clock.now s p) h.0.1.0 (of_ended p.clock.now s p)
act_reports p q (Given b) g h = absurd (no_packet g)
act_reports p q (Taken b) g h =
    let w = transmits_some p.packets p q b h in reports_at p q (packet_given w.0.rest p) w.1.1 (reports_alike p (packet_given w.0.rest p) refl refl)
act_reports p q (Read s n i b) g h =
    let w = reads_some (next_message s p) s p q (h.0, b) h.1.0.1 in reports_at p q (taken_out s p) w.1.2 (of_taken_out s p)
act_reports p q (ToldEvent e) g h =
    let w = polls_some p.events p q e h in
    subst (λ (x : Contents). Reports p x) (sym w.1) (record { rises = λ k. k; still = λ s. refl; events = inr (e, w.0.is) })
act_reports p q (Stirred (Timed now)) g h = times (λ x. Reports p x) p q now h.0 (reports_none p) (of_timed now p) h.1
act_reports p q (Stirred ShutDown) g h =
    does_leaves (λ x. Reports p x) (ending_cause p) p (shut_down p) q h.0 (reports_none p) (of_shut_down p) h.1
act_reports p q (Stirred Other) g h = of_stirs p q h

-- ---- an item that is not counted

not_counted : (n m : ℕ) → m ≡ n + 1 → m ≡ n → ⊥
not_counted n m e f = omega (arith, e, f)

not_taken : (b : Bool) (now : ℕ) (item : Item) (p : Contents) → (cond b (item_taken now item p) p).inbox.received ≡ p.inbox.received
    → cond b (item_taken now item p) p ≡ p
not_taken true now item p same = absurd (not_counted p.inbox.received (item_taken now item p).inbox.received (counted_item now item p) same)
not_taken false now item p same = refl

-- it changes nothing
not_came : (now number : ℕ) (item : Item) (p : Contents) → (item_came now number item p).inbox.received ≡ p.inbox.received
    → item_came now number item p ≡ p
unfolding item_came
not_came now number item p same = not_taken ((number == p.inbox.received + 1) && not (is_ending p)) now item p same

same_front : (n : ℕ) (p : Contents) → (acknowledged n (greeted p)).inbox.received ≡ p.inbox.received
unfolding acknowledged greeted
same_front n p = refl

same_answered : (now : ℕ) (p : Contents) → (at_moment now (answered p)).inbox.received ≡ p.inbox.received
unfolding answered at_moment
same_answered now p = refl

-- what a packet without an item leaves
pub none_came : (now n number : ℕ) (item : Item) (p : Contents)
    → (at_moment now (framed now (Some (Data n number item)) p)).inbox.received ≡ p.inbox.received
    → framed now (Some (Data n number item)) p ≡ answered (acknowledged n (greeted p))
none_came now n number item p same =
    ap answered
    (not_came now number item (acknowledged n (greeted p))
    (sym (same_answered now (item_came now number item (acknowledged n (greeted p)))) ∙ same ∙ sym (same_front n p)))

-- ---- whether it is connected

pub connected_moment : (now : ℕ) (p : Contents) → is_connected (at_moment now p) ≡ is_connected p
unfolding at_moment
connected_moment now p = refl

pub connected_answered : (p : Contents) → is_connected (answered p) ≡ is_connected p
unfolding answered
connected_answered p = refl

pub connected_acknowledged : (n : ℕ) (p : Contents) → is_connected (acknowledged n p) ≡ is_connected p
unfolding acknowledged
connected_acknowledged n p = refl

connected_lost : (p : Contents) → is_connected (lost p) ≡ is_connected p
unfolding lost
connected_lost p = refl

or_first : (a b : Bool) → a ≡ true → (a || b) ≡ true
or_first true b e = refl
or_first false b e = absurd (true≢false (sym e))

rises_greeted : (p : Contents) → is_connected p ≡ true → is_connected (greeted p) ≡ true
unfolding greeted
rises_greeted p e = or_first p.standing.connected (is_client p.standing.role) e

rises_welcomed : (p : Contents) → is_connected p ≡ true → is_connected (welcomed p) ≡ true
unfolding welcomed
rises_welcomed p e = by (is_server p.standing.role)
  where
    by : (b : Bool)
        → is_connected (cond b (record p { standing = record p.standing { connected = true }; events = p.events ++ (cond p.standing.connected [] (Connected ∷ [])); packets = p.packets ++ (2 ∷ []) ∷ [] }) p) ≡ true
    by true = refl
    by false = e

rises_framed : (now : ℕ) (f : Option Frame) (p : Contents) → (at_moment now (framed now f p)).inbox.received ≡ p.inbox.received
    → is_connected p ≡ true → is_connected (framed now f p) ≡ true
rises_framed now None p same e = e
rises_framed now (Some Hello) p same e = rises_welcomed p e
rises_framed now (Some Welcome) p same e = rises_greeted p e
rises_framed now (Some (Data n number item)) p same e =
    ap is_connected (none_came now n number item p same)
    ∙ connected_answered (acknowledged n (greeted p))
    ∙ connected_acknowledged n (greeted p)
    ∙ rises_greeted p e
rises_framed now (Some (Acknowledgement n)) p same e = connected_acknowledged n p ∙ e
rises_framed now (Some Shutdown) p same e = connected_lost p ∙ e

rises_half : (f : Option Frame) (p : Contents) → is_connected p ≡ true → is_connected (half_taken f p) ≡ true
rises_half None p e = e
rises_half (Some Hello) p e = e
rises_half (Some Welcome) p e = e
rises_half (Some (Data n number item)) p e = connected_acknowledged n (greeted p) ∙ rises_greeted p e
rises_half (Some (Acknowledgement n)) p e = e
rises_half (Some Shutdown) p e = e

-- an end that is connected stays so, by a packet that brings no item
pub given_rises : (p q : Contents) (now : ℕ) (bytes : List ℕ) (r : Result (Unit {0}) AllocError) → Gives p now bytes r q
    → q.inbox.received ≡ p.inbox.received → is_connected p ≡ true → is_connected q ≡ true
given_rises p q now bytes r h =
    gives (λ x. x.inbox.received ≡ p.inbox.received → is_connected p ≡ true → is_connected x ≡ true) p q now bytes r (λ same e. e)
    (λ same e. rises_half (frame_in bytes) p e)
    (λ same e. connected_moment now (framed now (frame_in bytes) p) ∙ rises_framed now (frame_in bytes) p same e) h
