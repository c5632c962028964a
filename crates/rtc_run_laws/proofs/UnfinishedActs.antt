-- A handshake that is not finished is finished by packets alone.
use Rattle.std.proofs.Common.{◌≡◌, ◌∙◌, inl, inr, ◌∷◌, if◌then◌else◌, ℕ, Bool, true, false, List, [], Result, Ok, Err, refl, sym, ap, subst}
use Rattle.std.specs.declared.alloc.AllocError.{AllocError}
use Rattle.std.specs.Prelude.{nat_le}
use Rattle.rtc_parts.specs.Among.{Member}
use Rattle.rtc_parts.specs.declared.dtls_error.DtlsError.{DtlsError}
use Rattle.rtc_parts.specs.declared.dtls_error.DtlsError.TheVariants.{WouldBlock, Fault, Alloc}
use Rattle.rtc_parts.specs.DtlsDrawn.{DtlsDrawn, DrewPacket, DrewData}
use Rattle.rtc_parts.specs.DtlsActs.{DtlsAct, DtlsCall, DtlsActed, DtlsCalled, DtlsMoved, Given, Taken, Sent, Got, Stirred, CertificateSet, Activated, VersionSet, SendRefused, TimedAt, Closed, Showed}
use Rattle.rtc_parts.specs.DtlsWords.{dtls_given}
use Rattle.rtc_plain_dtls.specs.Contents.{DtlsContents, asks_of, phase_is_finished}
use Rattle.rtc_plain_dtls.specs.Calls.{went_on, certificate_kept, role_taken, role_set, start_came, packet_came, data_queued, sent_again, moment_taken, dtls_time_passed, dtls_shut_down, dtls_packet_given, dtls_output_given}
use Rattle.rtc_plain_dtls.specs.PlainMeaning.{plain_dtls, LeavesDtls, SendsDtls, PollsDtls, KeepsCert}
use Rattle.rtc_plain_dtls.specs.declared.output.Output.{Output}
use Rattle.rtc_plain_dtls.specs.declared.phase.Phase.{Phase}
use Rattle.rtc_plain_dtls.specs.declared.phase.Phase.TheVariants.{NoRole, AwaitStart, AwaitCert, AwaitHello, AwaitFinish, FinishedActive, FinishedPassive}

abbrev pub IsUnfinished : DtlsContents → Type 0
IsUnfinished d = phase_is_finished d.phase ≡ false

-- ---- calls

went : (phase : Phase) (outputs : List Output) (packets : List (List ℕ)) (d : DtlsContents) → phase_is_finished phase ≡ false
    → IsUnfinished (went_on phase outputs packets d)
unfolding went_on
went phase outputs packets d e = e

start : (phase : Phase) (d : DtlsContents) → IsUnfinished d → IsUnfinished (start_came phase d)
start NoRole d u = u
start AwaitStart d u = went AwaitCert [] _ d refl
start AwaitCert d u = u
start AwaitHello d u = u
start AwaitFinish d u = u
start FinishedActive d u = u
start FinishedPassive d u = u

again : (phase : Phase) (d : DtlsContents) → IsUnfinished d → IsUnfinished (sent_again phase d)
again NoRole d u = u
again AwaitStart d u = went AwaitCert [] _ d refl
again AwaitCert d u = went AwaitCert [] _ d refl
again AwaitHello d u = u
again AwaitFinish d u = went AwaitFinish [] _ d refl
again FinishedActive d u = u
again FinishedPassive d u = u

moment : (now : ℕ) (d : DtlsContents) → IsUnfinished d → IsUnfinished (moment_taken now d)
unfolding moment_taken
moment now d u = u

time : (now : ℕ) (d : DtlsContents) → IsUnfinished d → IsUnfinished (dtls_time_passed now d)
time now d u = moment now (if nat_le (asks_of d) now then sent_again d.phase d else d) (by (nat_le (asks_of d) now))
  where
    by : (b : Bool) → IsUnfinished (if b then sent_again d.phase d else d)
    by true = again d.phase d u
    by false = u

role_unfinished : (active : Bool) (phase : Phase) → phase_is_finished phase ≡ false → phase_is_finished (role_taken active phase) ≡ false
role_unfinished true NoRole e = refl
role_unfinished false NoRole e = refl
role_unfinished active AwaitStart e = e
role_unfinished active AwaitCert e = e
role_unfinished active AwaitHello e = e
role_unfinished active AwaitFinish e = e
role_unfinished active FinishedActive e = e
role_unfinished active FinishedPassive e = e

role : (active : Bool) (d : DtlsContents) → IsUnfinished d → IsUnfinished (role_set active d)
unfolding role_set
role active d u = role_unfinished active d.phase u

kept : (cert : List ℕ) (d : DtlsContents) → IsUnfinished d → IsUnfinished (certificate_kept cert d)
unfolding certificate_kept
kept cert d u = u

shut : (d : DtlsContents) → IsUnfinished d → IsUnfinished (dtls_shut_down d)
unfolding dtls_shut_down
shut d u = u

-- ---- results

at : (d e : DtlsContents) → e ≡ d → IsUnfinished d → IsUnfinished e
at d e is u = ap (λ (x : DtlsContents). phase_is_finished x.phase) is ∙ u

leaves : (d done : DtlsContents) (r : Result (Unit {0}) DtlsError) (e : DtlsContents) → IsUnfinished d → IsUnfinished done → LeavesDtls d done r e
    → IsUnfinished e
leaves d done (Ok x) e u after h = at done e h after
leaves d done (Err WouldBlock) e u after h = absurd h
leaves d done (Err Fault) e u after h = absurd h
leaves d done (Err Alloc) e u after h = at d e h u

sends : (b : Bool) (d done : DtlsContents) (r : Result (Unit {0}) DtlsError) (e : DtlsContents) → IsUnfinished d → IsUnfinished done
    → SendsDtls b d done r e → IsUnfinished e
sends true d done r e u after h = leaves d done r e u after h
sends false d done r e u after h = at d e h.1 u

keeps : (d : DtlsContents) (cert : List ℕ) (r : Result (Unit {0}) AllocError) (e : DtlsContents) → IsUnfinished d
    → KeepsCert d (certificate_kept cert d) r e → IsUnfinished e
keeps d cert (Ok x) e u h = at (certificate_kept cert d) e h (kept cert d u)
keeps d cert (Err x) e u h = at d e h u

drawn : (packets : List (List ℕ)) (outputs : List Output) (d : DtlsContents) (x : DtlsDrawn) (e : DtlsContents) → PollsDtls packets outputs d x e
    → IsUnfinished d → IsUnfinished e
drawn (packet ∷ packets) outputs d x e h u = at (dtls_packet_given packets d) e h.2 u
drawn [] (output ∷ outputs) d x e h u = at (dtls_output_given outputs d) e h.2 u
drawn [] [] d x e h u = at d e h.1 u

called : (d : DtlsContents) (call : DtlsCall) (e : DtlsContents) → DtlsCalled plain_dtls d call e → IsUnfinished d → IsUnfinished e
called d (CertificateSet cert answer) e h u = keeps d cert answer e u h
called d (Activated active) e h u = at (role_set active d) e h (role active d u)
called d (VersionSet version) e h u = at d e h u
called d (SendRefused bytes cause) e h u = sends (phase_is_finished d.phase) d (data_queued bytes d) (Err cause) e u (went d.phase [] _ d u) h
called d (TimedAt now answer) e h u = leaves d (dtls_time_passed now d) answer e u (time now d u) h
called d (Closed answer) e h u = leaves d (dtls_shut_down d) answer e u (shut d u) h
called d (Showed x) e h u = drawn d.packets d.outputs d x e h.1 u

-- ---- acts

-- packets of no bytes begin it at most
acted : (d : DtlsContents) (act : DtlsAct) (e : DtlsContents) → DtlsActed plain_dtls d act e → ((x : List ℕ) → Member x (dtls_given (act ∷ [])) → x ≡ [])
    → IsUnfinished d → IsUnfinished e
acted d (Given packet) e h empty u =
    leaves d (packet_came packet d) h.0 e u
    (subst (λ (l : List ℕ). IsUnfinished (packet_came l d)) (sym (empty packet (inl refl))) (start d.phase d u)) h.1
acted d (Taken packet) e h empty u = drawn d.packets d.outputs d (DrewPacket packet) e h u
acted d (Sent bytes) e h empty u = sends (phase_is_finished d.phase) d (data_queued bytes d) (Ok tt) e u (went d.phase [] _ d u) h
acted d (Got bytes) e h empty u = drawn d.packets d.outputs d (DrewData bytes) e h u
acted d (Stirred call) e h empty u = called d call e h u

first_given : (act : DtlsAct) (acts : List DtlsAct) (x : List ℕ) → Member x (dtls_given (act ∷ [])) → Member x (dtls_given (act ∷ acts))
first_given (Given packet) acts x (inl k) = inl k
first_given (Given packet) acts x (inr k) = absurd k
first_given (Taken packet) acts x k = absurd k
first_given (Sent bytes) acts x k = absurd k
first_given (Got bytes) acts x k = absurd k
first_given (Stirred call) acts x k = absurd k

others_given : (act : DtlsAct) (acts : List DtlsAct) (x : List ℕ) → Member x (dtls_given acts) → Member x (dtls_given (act ∷ acts))
others_given (Given packet) acts x k = inr k
others_given (Taken packet) acts x k = k
others_given (Sent bytes) acts x k = k
others_given (Got bytes) acts x k = k
others_given (Stirred call) acts x k = k

pub dtls_unfinished : (acts : List DtlsAct) (d e : DtlsContents) → DtlsMoved plain_dtls d acts e → ((x : List ℕ) → Member x (dtls_given acts) → x ≡ [])
    → IsUnfinished d → IsUnfinished e
dtls_unfinished [] d e h empty u = at d e h u
dtls_unfinished (act ∷ acts) d e h empty u =
    dtls_unfinished acts h.0 e h.1.1 (λ x k. empty x (others_given act acts x k))
    (acted d act h.0 h.1.0 (λ x k. empty x (first_given act acts x k)) u)
