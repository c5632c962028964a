-- An end of the plain association reads nothing of a generation that the other end closed: its own close of it was sent then, and what was
-- unread is dropped.
use Rattle.std.proofs.Common.{◌≡◌, ◌∙◌, ℕ, length, Bool, true, false, true≢false, List, [], Some, None, Ok, refl, sym, ap, subst}
use Rattle.rtc_parts.specs.declared.ppi.Ppi.{Ppi}
use Rattle.rtc_parts.specs.AssociationActs.{AssociationAct, Started, Opened, Wrote, Ended, Given, Taken, Read, Told as ToldEvent, Stirred, Starts, ByConnect, ByAccept, BySnap, Stirs, LimitsSet, ConnectRefused, AcceptRefused, SnapRefused, OpenRefused, WriteRefused, ReadRefused, EndRefused, ThresholdSet, ReliabilitySet, Acted}
use Rattle.rtc_parts.specs.AssociationLaws.{IsSilent}
use Rattle.rtc_parts.specs.Ppi.{ppi_number}
use Rattle.rtc_parts.specs.Why.{Timed, Shut as ShutDown, Other}
use Rattle.rtc_assoc_state.specs.declared.close_state.CloseState.TheVariants.{Queued}
use Rattle.rtc_assoc_state.specs.Contents.{Contents, fresh_contents, is_finished}
use Rattle.rtc_assoc_state.specs.Streams.{is_closed_here, stream_of}
use Rattle.rtc_assoc_state.specs.Calls.{limited, started_as, said_hello, connected, accepted, snapped, opened, sent, message_written, next_message, taken_out, stream_ended, thresholded, shut_down, timed, event_given, packet_given}
use Rattle.rtc_assoc_state.specs.PlainMeaning.{plain_meaning, open_cause, write_cause, end_cause, stream_cause, ending_cause, Leaves, Sends, Reads}
use Rattle.rtc_assoc_state.proofs.DoesLemmas.{refused_changes_nothing, does_leaves, times, polls_some, transmits_some, reads_some}
use Rattle.rtc_assoc_state.proofs.PlainLaws.{plain_laws}
use Rattle.rtc_run_laws.proofs.ReadVisits.{ReadLaws}
use Rattle.rtc_run_laws.proofs.PlainFinishes.{AreFine, given_fine, put_fine}

-- ---- acts

abbrev Keeps : Contents → Contents → Type 0
Keeps p q = AreFine p.streams → AreFine q.streams

keeps_at : (p q r : Contents) → q ≡ r → Keeps p r → Keeps p q
keeps_at p q r is h = λ k. subst (λ (x : Contents). AreFine x.streams) (sym is) (h k)

keeps_same : (p q : Contents) → q ≡ p → Keeps p q
keeps_same p q is = keeps_at p q p is (λ k. k)

keeps_connected : (now m : ℕ) (p : Contents) → Keeps p (connected now m p)
unfolding started_as said_hello
keeps_connected now m p h = h

keeps_accepted : (now m : ℕ) (p : Contents) → Keeps p (accepted now m p)
unfolding started_as
keeps_accepted now m p h = h

keeps_snapped : (now m : ℕ) (p : Contents) → Keeps p (snapped now m p)
unfolding snapped started_as
keeps_snapped now m p h = h

keeps_limited : (n m : ℕ) (p : Contents) → Keeps p (limited n m p)
unfolding limited
keeps_limited n m p h = h

keeps_opened : (id : ℕ) (p : Contents) → Keeps p (opened id p)
unfolding opened
keeps_opened id p h = put_fine (record (stream_of id p.streams) { there = true }) p.streams (h id) h

keeps_thresholded : (id n : ℕ) (p : Contents) → Keeps p (thresholded id n p)
unfolding thresholded
keeps_thresholded id n p h = put_fine (record (stream_of id p.streams) { threshold = Some n }) p.streams (h id) h

keeps_ended : (now id : ℕ) (p : Contents) → Keeps p (stream_ended now id p)
unfolding stream_ended sent
keeps_ended now id p h = put_fine (record (stream_of id p.streams) { close = Queued }) p.streams (λ e. refl) h

keeps_written : (id i : ℕ) (bytes : List ℕ) (p : Contents) → Keeps p (message_written id i bytes p)
unfolding sent
keeps_written id i bytes p h = h

keeps_taken_out : (id : ℕ) (p : Contents) → Keeps p (taken_out id p)
unfolding taken_out
keeps_taken_out id p h = h

keeps_shut_down : (p : Contents) → Keeps p (shut_down p)
unfolding shut_down
keeps_shut_down p h = h

keeps_timed : (now : ℕ) (p : Contents) → Keeps p (timed now p)
unfolding timed
keeps_timed now p h = h

keeps_started : (p q : Contents) → Starts plain_meaning p q → Keeps p q
keeps_started p q (ByConnect now m h) = keeps_at p q (connected now m p) h.1 (keeps_connected now m p)
keeps_started p q (ByAccept now m h) = keeps_at p q (accepted now m p) h.1 (keeps_accepted now m p)
keeps_started p q (BySnap now m l o h) = keeps_at p q (snapped now m p) h.1 (keeps_snapped now m p)

keeps_stirs : (p q : Contents) → Stirs plain_meaning p q → Keeps p q
keeps_stirs p q (LimitsSet n m h) = keeps_at p q (limited n m p) h (keeps_limited n m p)
keeps_stirs p q (ConnectRefused now m e s h) = keeps_same p q (refused_changes_nothing None p q (Leaves (connected now m p)) e h)
keeps_stirs p q (AcceptRefused now m e s h) = keeps_same p q (refused_changes_nothing None p q (Leaves (accepted now m p)) e h)
keeps_stirs p q (SnapRefused now m l o e s h) = keeps_same p q (refused_changes_nothing None p q (Leaves (snapped now m p)) e h)
keeps_stirs p q (OpenRefused id e h) = keeps_same p q (refused_changes_nothing (open_cause p id) p q (Leaves (opened id p)) e h)
keeps_stirs p q (WriteRefused id i b e h) =
    keeps_same p q (refused_changes_nothing (write_cause p id b) p q (λ n o. (n ≡ length b) × Sends p (message_written id (ppi_number i) b p) o) e h)
keeps_stirs p q (ReadRefused id e h) =
    keeps_same p q (refused_changes_nothing (stream_cause p id) p q (λ m o. Reads (next_message id p) id p m o) e h)
keeps_stirs p q (EndRefused id e h) =
    keeps_same p q (refused_changes_nothing {T = Unit {0}} (end_cause p id) p q (λ _ o. Sends p (stream_ended p.clock.now id p) o) e h)
keeps_stirs p q (ThresholdSet id n r h) =
    does_leaves (Keeps p) (stream_cause p id) p (thresholded id n p) q r (λ k. k) (keeps_thresholded id n p) h
keeps_stirs p q (ReliabilitySet id u t n r h) = does_leaves (Keeps p) (stream_cause p id) p p q r (λ k. k) (λ k. k) h

act_fine : (p q : Contents) (act : AssociationAct) → Acted plain_meaning p act q → Keeps p q
act_fine p q Started h = keeps_started p q h.1
act_fine p q (Opened s n) h = keeps_at p q (opened s p) h.0.1 (keeps_opened s p)
act_fine p q (Wrote s n i b) h = keeps_at p q (message_written s (ppi_number h.0) b p) h.1.1.0.1.1.0 (keeps_written s (ppi_number h.0) b p)
act_fine p q (Ended s n) h = keeps_at p q (stream_ended p.clock.now s p) h.0.1.0 (keeps_ended p.clock.now s p)
act_fine p q (Given b) h = given_fine p q h.0 b h.1.0 h.1.1
act_fine p q (Taken b) h = let x = transmits_some p.packets p q b h in keeps_at p q (packet_given x.0.rest p) x.1.1 (λ k. k)
act_fine p q (Read s n i b) h = let x = reads_some (next_message s p) s p q (h.0, b) h.1.0.1 in keeps_at p q (taken_out s p) x.1.2 (keeps_taken_out s p)
act_fine p q (ToldEvent e) h = let x = polls_some p.events p q e h in keeps_at p q (event_given x.0.rest p) x.1 (λ k. k)
act_fine p q (Stirred (Timed now)) h = times (Keeps p) p q now h.0 (λ k. k) (keeps_timed now p) h.1
act_fine p q (Stirred ShutDown) h = does_leaves (Keeps p) (ending_cause p) p (shut_down p) q h.0 (λ k. k) (keeps_shut_down p) h.1
act_fine p q (Stirred Other) h = keeps_stirs p q h

-- ---- readings

-- rows are fine, and no generation that this end closed has a message unread
pub record IsSoundEnd (p : Contents) : Type 0 where
  fine : AreFine p.streams
  silent : IsSilent plain_meaning p

out_finished : (id s : ℕ) (p : Contents) → is_finished (taken_out id p) s ≡ is_finished p s
unfolding taken_out
out_finished id s p = refl

unended : (a b : Contents) (s : ℕ) (message : Ppi × List ℕ) → IsSoundEnd a → plain_meaning.read a s (Ok (Some message)) b → is_finished b s ≡ false
unended a b s message sound h = by (is_finished b s) refl
  where
    same : is_finished b s ≡ is_finished a s
    same =
        let x = reads_some (next_message s a) s a b message h.1 in
        ap (λ (p : Contents). is_finished p s) x.1.2 ∙ out_finished s s a

    by : (c : Bool) → is_finished b s ≡ c → c ≡ false
    by false e = refl
    by true e =
        absurd
        (true≢false
        (sym (plain_laws.read_unread a b s message h)
        ∙ sound.silent s (sound.fine s (sym same ∙ e))))

pub plain_reads : ReadLaws plain_meaning IsSoundEnd
plain_reads = record {
  acts = λ a b act h sound. record {
    fine = act_fine a b act h sound.fine;
    silent = plain_laws.closed_silent a b act h sound.silent;
  };
  reads = λ a b s message sound h. unended a b s message sound h;
}

no_rows : (s : ℕ) → (stream_of s []).finished ≡ true → is_closed_here (stream_of s []) ≡ true
no_rows s h = absurd (true≢false (sym h))

pub fresh_sound : IsSoundEnd fresh_contents
fresh_sound = record {
  fine = λ s h. no_rows s h;
  silent = λ s closed. refl;
}
