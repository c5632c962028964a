-- Acts that give an end no packet leave no further message unread, and a plain DTLS part that holds no output gets one by packets alone.
use Rattle.std.proofs.Common.{◌≡◌, inl, inr, ◌∙◌, ◌∷◌, if◌then◌else◌, not, ℕ, Bool, true, false, true≢false, List, [], length, append-nil, None, Result, Ok, Err, refl, sym, ap, subst}
use Rattle.std.specs.declared.alloc.AllocError.{AllocError}
use Rattle.std.specs.Prelude.{nat_le}
use Rattle.rtc_parts.specs.Among.{Member}
use Rattle.rtc_parts.specs.Why.{Timed, Shut, Other}
use Rattle.rtc_parts.specs.Ppi.{ppi_number}
use Rattle.rtc_parts.specs.AssociationActs.{AssociationAct, Started, Opened, Wrote, Ended, Given, Taken, Read, Told as ToldEvent, Stirred, Starts, ByConnect, ByAccept, BySnap, Stirs, LimitsSet, ConnectRefused, AcceptRefused, SnapRefused, OpenRefused, WriteRefused, ReadRefused, EndRefused, ThresholdSet, ReliabilitySet, Acted, Moved}
use Rattle.rtc_parts.specs.AssociationWords.{given}
use Rattle.rtc_parts.specs.declared.dtls_error.DtlsError.{DtlsError}
use Rattle.rtc_parts.specs.declared.dtls_error.DtlsError.TheVariants.{WouldBlock, Fault, Alloc}
use Rattle.rtc_parts.specs.DtlsDrawn.{DtlsDrawn, DrewPacket, DrewData}
use Rattle.rtc_parts.specs.DtlsActs.{DtlsAct, DtlsCall, DtlsActed, DtlsCalled, DtlsMoved, Given as DtlsGiven, Taken as DtlsTaken, Sent, Got, Stirred as DtlsStirred, CertificateSet, Activated, VersionSet, SendRefused, TimedAt, Closed, Showed}
use Rattle.rtc_parts.specs.DtlsWords.{dtls_given, dtls_got}
use Rattle.rtc_plain_dtls.specs.Contents.{DtlsContents, asks_of, phase_is_finished}
use Rattle.rtc_plain_dtls.specs.Calls.{went_on, certificate_kept, role_set, start_came, packet_came, data_queued, sent_again, moment_taken, dtls_time_passed, dtls_shut_down, dtls_packet_given}
use Rattle.rtc_plain_dtls.specs.PlainMeaning.{plain_dtls, LeavesDtls, SendsDtls, PollsDtls, KeepsCert}
use Rattle.rtc_plain_dtls.specs.declared.output.Output.{Output}
use Rattle.rtc_plain_dtls.specs.declared.phase.Phase.{Phase}
use Rattle.rtc_plain_dtls.specs.declared.phase.Phase.TheVariants.{NoRole, AwaitStart, AwaitCert, AwaitHello, AwaitFinish, FinishedActive, FinishedPassive}
use Rattle.rtc_assoc_state.specs.Contents.{Contents, generation_of, has_unread}
use Rattle.rtc_assoc_state.specs.Inbox.{is_message_of}
use Rattle.rtc_assoc_state.specs.Streams.{stream_of}
use Rattle.rtc_assoc_state.specs.Calls.{limited, started_as, said_hello, connected, accepted, snapped, opened, sent, message_written, next_message, taken_out, stream_ended, thresholded, shut_down, timed, event_given, packet_given}
use Rattle.rtc_assoc_state.specs.PlainMeaning.{plain_meaning, open_cause, write_cause, end_cause, stream_cause, ending_cause, Leaves, Sends, Reads}
use Rattle.rtc_assoc_state.proofs.DoesLemmas.{refused_changes_nothing, does_leaves, times, polls_some, transmits_some, reads_some}
use Rattle.rtc_assoc_state.proofs.ReadableLemmas.{any-filter, any-taken}
use Rattle.rtc_sctp_laws.specs.GenerationLaws.{gives_packet}
use Rattle.rtc_sctp_laws.proofs.PlainGenerations.{plain_generations}

-- ---- the association

-- what is unread was so before
abbrev pub Unraised : Contents → Contents → Type 0
Unraised p q = (s g : ℕ) → has_unread q s g ≡ true → has_unread p s g ≡ true

none_raised : (p : Contents) → Unraised p p
none_raised p = λ s g u. u

raised_at : (p q r : Contents) → q ≡ r → Unraised p r → Unraised p q
raised_at p q r e h = subst (Unraised p) (sym e) h

raised_opened : (id : ℕ) (p : Contents) → Unraised p (opened id p)
unfolding opened
raised_opened id p = λ s g u. u

raised_thresholded : (id n : ℕ) (p : Contents) → Unraised p (thresholded id n p)
unfolding thresholded
raised_thresholded id n p = λ s g u. u

raised_ended : (now id : ℕ) (p : Contents) → Unraised p (stream_ended now id p)
unfolding stream_ended sent
raised_ended now id p = λ s g u.
    any-filter (is_message_of s g) (λ m. not (is_message_of id (stream_of id p.streams).generation m)) p.inbox.unread u

raised_written : (id i : ℕ) (bytes : List ℕ) (p : Contents) → Unraised p (message_written id i bytes p)
unfolding sent
raised_written id i bytes p = λ s g u. u

raised_connected : (now m : ℕ) (p : Contents) → Unraised p (connected now m p)
unfolding started_as said_hello
raised_connected now m p = λ s g u. u

raised_accepted : (now m : ℕ) (p : Contents) → Unraised p (accepted now m p)
unfolding started_as
raised_accepted now m p = λ s g u. u

raised_snapped : (now m : ℕ) (p : Contents) → Unraised p (snapped now m p)
unfolding snapped started_as
raised_snapped now m p = λ s g u. u

raised_limited : (n m : ℕ) (p : Contents) → Unraised p (limited n m p)
unfolding limited
raised_limited n m p = λ s g u. u

raised_taken_out : (id : ℕ) (p : Contents) → Unraised p (taken_out id p)
unfolding taken_out
raised_taken_out id p = λ s g u. any-taken (is_message_of s g) id (stream_of id p.streams).generation p.inbox.unread u

raised_shut_down : (p : Contents) → Unraised p (shut_down p)
unfolding shut_down
raised_shut_down p = λ s g u. u

raised_timed : (now : ℕ) (p : Contents) → Unraised p (timed now p)
unfolding timed
raised_timed now p = λ s g u. u

raised_started : (p q : Contents) → Starts plain_meaning p q → Unraised p q
raised_started p q (ByConnect now m h) = raised_at p q (connected now m p) h.1 (raised_connected now m p)
raised_started p q (ByAccept now m h) = raised_at p q (accepted now m p) h.1 (raised_accepted now m p)
raised_started p q (BySnap now m l o h) = raised_at p q (snapped now m p) h.1 (raised_snapped now m p)

raised_same : (p q : Contents) → q ≡ p → Unraised p q
raised_same p q e = raised_at p q p e (none_raised p)

raised_stirs : (p q : Contents) → Stirs plain_meaning p q → Unraised p q
raised_stirs p q (LimitsSet n m h) = raised_at p q (limited n m p) h (raised_limited n m p)
raised_stirs p q (ConnectRefused now m e s h) = raised_same p q (refused_changes_nothing None p q (Leaves (connected now m p)) e h)
raised_stirs p q (AcceptRefused now m e s h) = raised_same p q (refused_changes_nothing None p q (Leaves (accepted now m p)) e h)
raised_stirs p q (SnapRefused now m l o e s h) = raised_same p q (refused_changes_nothing None p q (Leaves (snapped now m p)) e h)
raised_stirs p q (OpenRefused id e h) = raised_same p q (refused_changes_nothing (open_cause p id) p q (Leaves (opened id p)) e h)
raised_stirs p q (WriteRefused id i b e h) =
    raised_same p q (refused_changes_nothing (write_cause p id b) p q (λ n o. (n ≡ length b) × Sends p (message_written id (ppi_number i) b p) o) e h)
raised_stirs p q (ReadRefused id e h) = raised_same p q (refused_changes_nothing (stream_cause p id) p q (λ m o. Reads (next_message id p) id p m o) e h)
raised_stirs p q (EndRefused id e h) =
    raised_same p q (refused_changes_nothing {T = Unit {0}} (end_cause p id) p q (λ _ o. Sends p (stream_ended p.clock.now id p) o) e h)
raised_stirs p q (ThresholdSet id n r h) =
    does_leaves (Unraised p) (stream_cause p id) p (thresholded id n p) q r (none_raised p) (raised_thresholded id n p) h
raised_stirs p q (ReliabilitySet id u t n r h) = does_leaves (Unraised p) (stream_cause p id) p p q r (none_raised p) (none_raised p) h

pub raised_act : (p q : Contents) (act : AssociationAct) → gives_packet act ≡ false → Acted plain_meaning p act q → Unraised p q
raised_act p q Started g h = raised_started p q h.1
raised_act p q (Opened s n) g h = raised_at p q (opened s p) h.0.1 (raised_opened s p)
raised_act p q (Wrote s n i b) g h = raised_at p q (message_written s (ppi_number h.0) b p) h.1.1.0.1.1.0 (raised_written s (ppi_number h.0) b p)
raised_act p q (Ended s n) g h = raised_at p q (stream_ended p.clock.now s p) h.0.1.0 (raised_ended p.clock.now s p)
raised_act p q (Given b) g h = absurd (true≢false g)
raised_act p q (Taken b) g h = let w = transmits_some p.packets p q b h in raised_at p q (packet_given w.0.rest p) w.1.1 (λ s g u. u)
raised_act p q (Read s n i b) g h =
    let w = reads_some (next_message s p) s p q (h.0, b) h.1.0.1 in raised_at p q (taken_out s p) w.1.2 (raised_taken_out s p)
raised_act p q (ToldEvent e) g h = let w = polls_some p.events p q e h in raised_at p q (event_given w.0.rest p) w.1 (λ s g u. u)
raised_act p q (Stirred (Timed now)) g h = times (Unraised p) p q now h.0 (none_raised p) (raised_timed now p) h.1
raised_act p q (Stirred Shut) g h = does_leaves (Unraised p) (ending_cause p) p (shut_down p) q h.0 (none_raised p) (raised_shut_down p) h.1
raised_act p q (Stirred Other) g h = raised_stirs p q h

-- of the messages unread, and of the generations
pub record StaysHeard (p q : Contents) : Type 0 where
  pub unraised : Unraised p q
  pub same : (s : ℕ) → generation_of q s ≡ generation_of p s

no_packet : (packet : List ℕ) (l : List (List ℕ)) → packet ∷ l ≡ [] → ⊥
no_packet packet l e = cc (e)

pub given_none : (act : AssociationAct) (acts : List AssociationAct) → given (act ∷ acts) ≡ [] → (gives_packet act ≡ false) × (given acts ≡ [])
given_none (Given packet) acts h = absurd (no_packet packet (given acts) h)
given_none act acts h = (refl, h)

pub quiet_moved : (acts : List AssociationAct) (p q : Contents) → Moved plain_meaning p acts q → given acts ≡ [] → StaysHeard p q
quiet_moved [] p q h none = subst (StaysHeard p) (sym h) (record { unraised = none_raised p; same = λ s. refl })
quiet_moved (act ∷ acts) p q h none =
    let quiet = given_none act acts none in
    let rest = quiet_moved acts h.0 q h.1.1 quiet.1 in
    record {
      unraised = λ s g u. raised_act p h.0 act quiet.0 h.1.0 s g (rest.unraised s g u);
      same = λ s. rest.same s ∙ (plain_generations.acts_keep s p h.0 act quiet.0 h.1.0).generation_is;
    }

-- ---- the DTLS part

-- it holds no output
abbrev pub HoldsNoOutput : DtlsContents → Type 0
HoldsNoOutput p = p.outputs ≡ []

went_outputs : (phase : Phase) (packets : List (List ℕ)) (p : DtlsContents) → HoldsNoOutput p → HoldsNoOutput (went_on phase [] packets p)
unfolding went_on
went_outputs phase packets p none = append-nil p.outputs ∙ none

start_outputs : (phase : Phase) (p : DtlsContents) → HoldsNoOutput p → HoldsNoOutput (start_came phase p)
start_outputs NoRole p none = none
start_outputs AwaitStart p none = went_outputs AwaitCert _ p none
start_outputs AwaitCert p none = none
start_outputs AwaitHello p none = none
start_outputs AwaitFinish p none = none
start_outputs FinishedActive p none = none
start_outputs FinishedPassive p none = none

again_outputs : (phase : Phase) (p : DtlsContents) → HoldsNoOutput p → HoldsNoOutput (sent_again phase p)
again_outputs NoRole p none = none
again_outputs AwaitStart p none = went_outputs AwaitCert _ p none
again_outputs AwaitCert p none = went_outputs AwaitCert _ p none
again_outputs AwaitHello p none = none
again_outputs AwaitFinish p none = went_outputs AwaitFinish _ p none
again_outputs FinishedActive p none = none
again_outputs FinishedPassive p none = none

moment_outputs : (now : ℕ) (p : DtlsContents) → HoldsNoOutput p → HoldsNoOutput (moment_taken now p)
unfolding moment_taken
moment_outputs now p none = none

passed_outputs : (now : ℕ) (p : DtlsContents) → HoldsNoOutput p → HoldsNoOutput (dtls_time_passed now p)
passed_outputs now p none = moment_outputs now (if nat_le (asks_of p) now then sent_again p.phase p else p) (by (nat_le (asks_of p) now))
  where
    by : (b : Bool) → HoldsNoOutput (if b then sent_again p.phase p else p)
    by true = again_outputs p.phase p none
    by false = none

role_outputs : (active : Bool) (p : DtlsContents) → HoldsNoOutput p → HoldsNoOutput (role_set active p)
unfolding role_set
role_outputs active p none = none

cert_outputs : (cert : List ℕ) (p : DtlsContents) → HoldsNoOutput p → HoldsNoOutput (certificate_kept cert p)
unfolding certificate_kept
cert_outputs cert p none = none

shut_outputs : (p : DtlsContents) → HoldsNoOutput p → HoldsNoOutput (dtls_shut_down p)
unfolding dtls_shut_down
shut_outputs p none = none

outputs_at : (p q : DtlsContents) → q ≡ p → HoldsNoOutput p → HoldsNoOutput q
outputs_at p q e none = ap (λ (x : DtlsContents). x.outputs) e ∙ none

leaves_outputs : (p done : DtlsContents) (r : Result (Unit {0}) DtlsError) (q : DtlsContents) → HoldsNoOutput p → HoldsNoOutput done
    → LeavesDtls p done r q → HoldsNoOutput q
leaves_outputs p done (Ok x) q none after h = outputs_at done q h after
leaves_outputs p done (Err WouldBlock) q none after h = absurd h
leaves_outputs p done (Err Fault) q none after h = absurd h
leaves_outputs p done (Err Alloc) q none after h = outputs_at p q h none

sends_outputs : (b : Bool) (p done : DtlsContents) (r : Result (Unit {0}) DtlsError) (q : DtlsContents) → HoldsNoOutput p → HoldsNoOutput done
    → SendsDtls b p done r q → HoldsNoOutput q
sends_outputs true p done r q none after h = leaves_outputs p done r q none after h
sends_outputs false p done r q none after h = outputs_at p q h.1 none

cert_kept : (p : DtlsContents) (cert : List ℕ) (r : Result (Unit {0}) AllocError) (q : DtlsContents) → HoldsNoOutput p
    → KeepsCert p (certificate_kept cert p) r q → HoldsNoOutput q
cert_kept p cert (Ok x) q none h = outputs_at (certificate_kept cert p) q h (cert_outputs cert p none)
cert_kept p cert (Err x) q none h = outputs_at p q h none

-- a poll of it gives a packet or a timeout
drawn_outputs : (packets : List (List ℕ)) (outputs : List Output) (p : DtlsContents) (drawn : DtlsDrawn) (q : DtlsContents) → outputs ≡ []
    → HoldsNoOutput p → PollsDtls packets outputs p drawn q → HoldsNoOutput q
drawn_outputs (packet ∷ packets) outputs p drawn q empty none h = outputs_at (dtls_packet_given packets p) q h.2 none
drawn_outputs [] (output ∷ outputs) p drawn q empty none h = absurd (no_output empty)
  where
    no_output : output ∷ outputs ≡ [] → ⊥
    no_output e = cc (e)
drawn_outputs [] [] p drawn q empty none h = outputs_at p q h.1 none

no_data : (packets : List (List ℕ)) (outputs : List Output) (p : DtlsContents) (bytes : List ℕ) (q : DtlsContents) → outputs ≡ []
    → PollsDtls packets outputs p (DrewData bytes) q → ⊥
no_data (packet ∷ packets) outputs p bytes q empty h = cc (h.0)
no_data [] (output ∷ outputs) p bytes q empty h = no_output empty
  where
    no_output : output ∷ outputs ≡ [] → ⊥
    no_output e = cc (e)
no_data [] [] p bytes q empty h = cc (h.0)

called_outputs : (p : DtlsContents) (call : DtlsCall) (q : DtlsContents) → HoldsNoOutput p → DtlsCalled plain_dtls p call q → HoldsNoOutput q
called_outputs p (CertificateSet cert answer) q none h = cert_kept p cert answer q none h
called_outputs p (Activated active) q none h = outputs_at (role_set active p) q h (role_outputs active p none)
called_outputs p (VersionSet version) q none h = outputs_at p q h none
called_outputs p (SendRefused bytes cause) q none h =
    sends_outputs (phase_is_finished p.phase) p (data_queued bytes p) (Err cause) q none (went_outputs p.phase _ p none) h
called_outputs p (TimedAt moment answer) q none h = leaves_outputs p (dtls_time_passed moment p) answer q none (passed_outputs moment p none) h
called_outputs p (Closed answer) q none h = leaves_outputs p (dtls_shut_down p) answer q none (shut_outputs p none) h
called_outputs p (Showed drawn) q none h = drawn_outputs p.packets p.outputs p drawn q none none h.1

-- packets of no bytes give it none either
record ActsQuietly (act : DtlsAct) (acts : List DtlsAct) (q : DtlsContents) : Type 0 where
  none : HoldsNoOutput q
  got : dtls_got (act ∷ acts) ≡ dtls_got acts
  given : (x : List ℕ) → Member x (dtls_given acts) → Member x (dtls_given (act ∷ acts))

act_quietly : (p : DtlsContents) (act : DtlsAct) (acts : List DtlsAct) (q : DtlsContents) → DtlsActed plain_dtls p act q
    → ((x : List ℕ) → Member x (dtls_given (act ∷ acts)) → x ≡ []) → HoldsNoOutput p → ActsQuietly act acts q
act_quietly p (DtlsGiven packet) acts q h empty none = record {
  none =
      leaves_outputs p (packet_came packet p) h.0 q none
      (subst (λ (l : List ℕ). HoldsNoOutput (packet_came l p)) (sym (empty packet (inl refl))) (start_outputs p.phase p none)) h.1;
  got = refl;
  given = λ x k. inr k;
}
act_quietly p (DtlsTaken packet) acts q h empty none =
    record { none = drawn_outputs p.packets p.outputs p (DrewPacket packet) q none none h; got = refl; given = λ x k. k }
act_quietly p (Sent bytes) acts q h empty none = record {
  none = sends_outputs (phase_is_finished p.phase) p (data_queued bytes p) (Ok tt) q none (went_outputs p.phase _ p none) h;
  got = refl;
  given = λ x k. k;
}
act_quietly p (Got bytes) acts q h empty none = absurd (no_data p.packets p.outputs p bytes q none h)
act_quietly p (DtlsStirred call) acts q h empty none = record { none = called_outputs p call q none h; got = refl; given = λ x k. k }

pub dtls_quiet : (acts : List DtlsAct) (p q : DtlsContents) → DtlsMoved plain_dtls p acts q
    → ((x : List ℕ) → Member x (dtls_given acts) → x ≡ []) → HoldsNoOutput p → HoldsNoOutput q × (dtls_got acts ≡ [])
dtls_quiet [] p q h empty none = (outputs_at p q h none, refl)
dtls_quiet (act ∷ acts) p q h empty none =
    let first = act_quietly p act acts h.0 h.1.0 empty none in
    let rest = dtls_quiet acts h.0 q h.1.1 (λ x k. empty x (first.given x k)) first.none in
    (rest.0, first.got ∙ rest.1)
