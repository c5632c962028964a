-- A plain DTLS part tells application data only once its handshake is finished.
use Rattle.std.proofs.Common.{◌≡◌, ◌∙◌, ◌∷◌, ◌++◌, if◌then◌else◌, ℕ, Bool, true, false, true≢false, List, [], Result, Ok, Err, refl, sym, ap, subst}
use Rattle.std.specs.declared.alloc.AllocError.{AllocError}
use Rattle.std.specs.Prelude.{nat_le}
use Rattle.rtc_parts.specs.declared.dtls_error.DtlsError.{DtlsError}
use Rattle.rtc_parts.specs.declared.dtls_error.DtlsError.TheVariants.{WouldBlock, Fault, Alloc}
use Rattle.rtc_parts.specs.DtlsDrawn.{DtlsDrawn, DrewPacket, DrewData}
use Rattle.rtc_parts.specs.DtlsActs.{DtlsAct, DtlsCall, DtlsActed, DtlsCalled, DtlsMoved, Given as DtlsGiven, Taken as DtlsTaken, Sent, Got, Stirred as DtlsStirred, CertificateSet, Activated, VersionSet, SendRefused, TimedAt, Closed, Showed}
use Rattle.rtc_parts.specs.DtlsWords.{dtls_got}
use Rattle.rtc_plain_dtls.specs.Contents.{DtlsContents, asks_of, phase_is_finished}
use Rattle.rtc_plain_dtls.specs.Calls.{went_on, certificate_kept, role_taken, role_set, start_came, hello_came, certificate_came, finish_came, data_came, close_told, dtls_close_came, frame_came, packet_came, data_queued, sent_again, moment_taken, dtls_time_passed, dtls_shut_down, dtls_packet_given, dtls_output_given}
use Rattle.rtc_plain_dtls.specs.Frames as said
use Rattle.rtc_plain_dtls.specs.Frames.{DtlsFrame, dtls_frame_in}
use Rattle.rtc_plain_dtls.specs.PlainMeaning.{plain_dtls, LeavesDtls, SendsDtls, PollsDtls, KeepsCert}
use Rattle.rtc_plain_dtls.specs.declared.output.Output.{Output}
use Rattle.rtc_plain_dtls.specs.declared.output.Output.TheVariants.{PeerCert, Keying, Connected, Data, Close}
use Rattle.rtc_plain_dtls.specs.declared.phase.Phase.{Phase}
use Rattle.rtc_plain_dtls.specs.declared.phase.Phase.TheVariants.{NoRole, AwaitStart, AwaitCert, AwaitHello, AwaitFinish, FinishedActive, FinishedPassive}

-- none of the outputs is application data
abbrev pub HoldsNoData : List Output → Type 0
HoldsNoData [] = Unit {0}
HoldsNoData (PeerCert cert ∷ outputs) = HoldsNoData outputs
HoldsNoData (Keying ∷ outputs) = HoldsNoData outputs
HoldsNoData (Connected ∷ outputs) = HoldsNoData outputs
HoldsNoData (Data bytes ∷ outputs) = ⊥
HoldsNoData (Close ∷ outputs) = HoldsNoData outputs

no_data_more : (xs ys : List Output) → HoldsNoData xs → HoldsNoData ys → HoldsNoData (xs ++ ys)
no_data_more [] ys h k = k
no_data_more (PeerCert cert ∷ xs) ys h k = no_data_more xs ys h k
no_data_more (Keying ∷ xs) ys h k = no_data_more xs ys h k
no_data_more (Connected ∷ xs) ys h k = no_data_more xs ys h k
no_data_more (Data bytes ∷ xs) ys h k = absurd h
no_data_more (Close ∷ xs) ys h k = no_data_more xs ys h k

no_data_behind : (x : Output) (xs : List Output) → HoldsNoData (x ∷ xs) → HoldsNoData xs
no_data_behind (PeerCert cert) xs h = h
no_data_behind Keying xs h = h
no_data_behind Connected xs h = h
no_data_behind (Data bytes) xs h = absurd h
no_data_behind Close xs h = h

-- where the handshake is not finished afterwards it was not before, and no application data stands to be told if none did before
abbrev Waits : DtlsContents → DtlsContents → Type 0
Waits p q =
    phase_is_finished q.phase ≡ false → (phase_is_finished p.phase ≡ false) × (HoldsNoData p.outputs → HoldsNoData q.outputs)

waits_self : (p : DtlsContents) → Waits p p
waits_self p = λ e. (e, λ h. h)

waits_at : (p q r : DtlsContents) → q ≡ r → Waits p r → Waits p q
waits_at p q r is h = subst (Waits p) (sym is) h

waits_on : (p q r : DtlsContents) → Waits p q → Waits q r → Waits p r
waits_on p q r h k = λ e. let last = k e in let first = h last.0 in (first.0, λ none. last.1 (first.1 none))

went_waits : (phase : Phase) (outputs : List Output) (packets : List (List ℕ)) (p : DtlsContents) → phase_is_finished p.phase ≡ false → HoldsNoData outputs
    → Waits p (went_on phase outputs packets p)
unfolding went_on
went_waits phase outputs packets p before none = λ e. (before, λ h. no_data_more p.outputs outputs h none)

went_done : (phase : Phase) (outputs : List Output) (packets : List (List ℕ)) (p : DtlsContents) → phase_is_finished phase ≡ true
    → Waits p (went_on phase outputs packets p)
unfolding went_on
went_done phase outputs packets p done = λ e. absurd (true≢false (sym done ∙ e))

queued_waits : (packets : List (List ℕ)) (p : DtlsContents) → Waits p (went_on p.phase [] packets p)
unfolding went_on
queued_waits packets p = λ e. (e, λ h. no_data_more p.outputs [] h tt)

start_waits : (phase : Phase) (p : DtlsContents) → p.phase ≡ phase → Waits p (start_came phase p)
start_waits NoRole p is = waits_self p
start_waits AwaitStart p is = went_waits AwaitCert [] _ p (ap phase_is_finished is) tt
start_waits AwaitCert p is = waits_self p
start_waits AwaitHello p is = waits_self p
start_waits AwaitFinish p is = waits_self p
start_waits FinishedActive p is = waits_self p
start_waits FinishedPassive p is = waits_self p

hello_waits : (phase : Phase) (cert : List ℕ) (p : DtlsContents) → p.phase ≡ phase → Waits p (hello_came phase cert p)
hello_waits NoRole cert p is = waits_self p
hello_waits AwaitStart cert p is = waits_self p
hello_waits AwaitCert cert p is = waits_self p
hello_waits AwaitHello cert p is = went_waits AwaitFinish (PeerCert cert ∷ []) _ p (ap phase_is_finished is) tt
hello_waits AwaitFinish cert p is = went_waits AwaitFinish [] _ p (ap phase_is_finished is) tt
hello_waits FinishedActive cert p is = waits_self p
hello_waits FinishedPassive cert p is = waits_self p

certificate_waits : (phase : Phase) (cert : List ℕ) (p : DtlsContents) → Waits p (certificate_came phase cert p)
certificate_waits NoRole cert p = waits_self p
certificate_waits AwaitStart cert p = went_done FinishedActive _ _ p refl
certificate_waits AwaitCert cert p = went_done FinishedActive _ _ p refl
certificate_waits AwaitHello cert p = waits_self p
certificate_waits AwaitFinish cert p = waits_self p
certificate_waits FinishedActive cert p = went_done FinishedActive _ _ p refl
certificate_waits FinishedPassive cert p = waits_self p

finish_waits : (phase : Phase) (p : DtlsContents) → Waits p (finish_came phase p)
finish_waits NoRole p = waits_self p
finish_waits AwaitStart p = waits_self p
finish_waits AwaitCert p = waits_self p
finish_waits AwaitHello p = waits_self p
finish_waits AwaitFinish p = went_done FinishedPassive _ _ p refl
finish_waits FinishedActive p = waits_self p
finish_waits FinishedPassive p = waits_self p

data_waits : (phase : Phase) (bytes : List ℕ) (p : DtlsContents) → Waits p (data_came phase bytes p)
data_waits NoRole bytes p = waits_self p
data_waits AwaitStart bytes p = waits_self p
data_waits AwaitCert bytes p = waits_self p
data_waits AwaitHello bytes p = waits_self p
data_waits AwaitFinish bytes p = went_done FinishedPassive _ _ p refl
data_waits FinishedActive bytes p = went_done FinishedActive _ _ p refl
data_waits FinishedPassive bytes p = went_done FinishedPassive _ _ p refl

told_waits : (p : DtlsContents) → Waits p (close_told p)
unfolding close_told
told_waits p = λ e. (e, λ h. no_data_more p.outputs (Close ∷ []) h tt)

close_waits : (notified : Bool) (p : DtlsContents) → Waits p (dtls_close_came notified p)
close_waits true p = waits_self p
close_waits false p = told_waits p

frame_waits : (frame : DtlsFrame) (p : DtlsContents) → Waits p (frame_came frame p)
frame_waits said.Start p = start_waits p.phase p refl
frame_waits (said.Hello cert) p = hello_waits p.phase cert p refl
frame_waits (said.Certificate cert) p = certificate_waits p.phase cert p
frame_waits said.Finish p = finish_waits p.phase p
frame_waits (said.Data bytes) p = data_waits p.phase bytes p
frame_waits said.Close p = close_waits p.notified p
frame_waits said.Unknown p = waits_self p

again_waits : (phase : Phase) (p : DtlsContents) → p.phase ≡ phase → Waits p (sent_again phase p)
again_waits NoRole p is = waits_self p
again_waits AwaitStart p is = went_waits AwaitCert [] _ p (ap phase_is_finished is) tt
again_waits AwaitCert p is = went_waits AwaitCert [] _ p (ap phase_is_finished is) tt
again_waits AwaitHello p is = waits_self p
again_waits AwaitFinish p is = went_waits AwaitFinish [] _ p (ap phase_is_finished is) tt
again_waits FinishedActive p is = waits_self p
again_waits FinishedPassive p is = waits_self p

moment_waits : (now : ℕ) (p : DtlsContents) → Waits p (moment_taken now p)
unfolding moment_taken
moment_waits now p = λ e. (e, λ h. h)

passed_waits : (now : ℕ) (p : DtlsContents) → Waits p (dtls_time_passed now p)
passed_waits now p = waits_on p (if nat_le (asks_of p) now then sent_again p.phase p else p) (dtls_time_passed now p) (by (nat_le (asks_of p) now)) (moment_waits now _)
  where
    by : (b : Bool) → Waits p (if b then sent_again p.phase p else p)
    by true = again_waits p.phase p refl
    by false = waits_self p

role_unfinished : (active : Bool) (phase : Phase) → phase_is_finished (role_taken active phase) ≡ false → phase_is_finished phase ≡ false
role_unfinished true NoRole e = refl
role_unfinished false NoRole e = refl
role_unfinished active AwaitStart e = e
role_unfinished active AwaitCert e = e
role_unfinished active AwaitHello e = e
role_unfinished active AwaitFinish e = e
role_unfinished active FinishedActive e = e
role_unfinished active FinishedPassive e = e

role_waits : (active : Bool) (p : DtlsContents) → Waits p (role_set active p)
unfolding role_set
role_waits active p = λ e. (role_unfinished active p.phase e, λ h. h)

cert_waits : (cert : List ℕ) (p : DtlsContents) → Waits p (certificate_kept cert p)
unfolding certificate_kept
cert_waits cert p = λ e. (e, λ h. h)

shut_waits : (p : DtlsContents) → Waits p (dtls_shut_down p)
unfolding dtls_shut_down
shut_waits p = λ e. (e, λ h. h)

leaves_waits : (p done : DtlsContents) (r : Result (Unit {0}) DtlsError) (q : DtlsContents) → Waits p done → LeavesDtls p done r q → Waits p q
leaves_waits p done (Ok x) q after h = waits_at p q done h after
leaves_waits p done (Err WouldBlock) q after h = absurd h
leaves_waits p done (Err Fault) q after h = absurd h
leaves_waits p done (Err Alloc) q after h = waits_at p q p h (waits_self p)

sends_waits : (b : Bool) (p done : DtlsContents) (r : Result (Unit {0}) DtlsError) (q : DtlsContents) → Waits p done → SendsDtls b p done r q → Waits p q
sends_waits true p done r q after h = leaves_waits p done r q after h
sends_waits false p done r q after h = waits_at p q p h.1 (waits_self p)

keeps_waits : (p : DtlsContents) (cert : List ℕ) (r : Result (Unit {0}) AllocError) (q : DtlsContents) → KeepsCert p (certificate_kept cert p) r q → Waits p q
keeps_waits p cert (Ok x) q h = waits_at p q (certificate_kept cert p) h (cert_waits cert p)
keeps_waits p cert (Err x) q h = waits_at p q p h (waits_self p)

polled_waits : (packets : List (List ℕ)) (outputs : List Output) (p : DtlsContents) (drawn : DtlsDrawn) (q : DtlsContents) → p.outputs ≡ outputs
    → PollsDtls packets outputs p drawn q → Waits p q
polled_waits (packet ∷ packets) outputs p drawn q is h = waits_at p q (dtls_packet_given packets p) h.2 (λ e. (e, λ k. k))
polled_waits [] (output ∷ outputs) p drawn q is h =
    waits_at p q (dtls_output_given outputs p) h.2 (λ e. (e, λ k. no_data_behind output outputs (subst HoldsNoData is k)))
polled_waits [] [] p drawn q is h = waits_at p q p h.1 (waits_self p)

called_waits : (p : DtlsContents) (call : DtlsCall) (q : DtlsContents) → DtlsCalled plain_dtls p call q → Waits p q
called_waits p (CertificateSet cert answer) q h = keeps_waits p cert answer q h
called_waits p (Activated active) q h = waits_at p q (role_set active p) h (role_waits active p)
called_waits p (VersionSet version) q h = waits_at p q p h (waits_self p)
called_waits p (SendRefused bytes cause) q h = sends_waits (phase_is_finished p.phase) p (data_queued bytes p) (Err cause) q (queued_waits _ p) h
called_waits p (TimedAt moment answer) q h = leaves_waits p (dtls_time_passed moment p) answer q (passed_waits moment p) h
called_waits p (Closed answer) q h = leaves_waits p (dtls_shut_down p) answer q (shut_waits p) h
called_waits p (Showed drawn) q h = polled_waits p.packets p.outputs p drawn q refl h.1

act_waits : (p : DtlsContents) (act : DtlsAct) (q : DtlsContents) → DtlsActed plain_dtls p act q → Waits p q
act_waits p (DtlsGiven packet) q h = leaves_waits p (packet_came packet p) h.0 q (frame_waits (dtls_frame_in packet) p) h.1
act_waits p (DtlsTaken packet) q h = polled_waits p.packets p.outputs p (DrewPacket packet) q refl h
act_waits p (Sent bytes) q h = sends_waits (phase_is_finished p.phase) p (data_queued bytes p) (Ok tt) q (queued_waits _ p) h
act_waits p (Got bytes) q h = polled_waits p.packets p.outputs p (DrewData bytes) q refl h
act_waits p (DtlsStirred call) q h = called_waits p call q h

-- application data is told only where some stands to be told
none_drawn : (packets : List (List ℕ)) (outputs : List Output) (p : DtlsContents) (bytes : List ℕ) (q : DtlsContents)
    → PollsDtls packets outputs p (DrewData bytes) q → HoldsNoData outputs → ⊥
none_drawn (packet ∷ packets) outputs p bytes q h none = cc (h.0)
none_drawn [] (PeerCert cert ∷ outputs) p bytes q h none = cc (h.0)
none_drawn [] (Keying ∷ outputs) p bytes q h none = cc (h.0)
none_drawn [] (Connected ∷ outputs) p bytes q h none = cc (h.0)
none_drawn [] (Data told ∷ outputs) p bytes q h none = none
none_drawn [] (Close ∷ outputs) p bytes q h none = cc (h.0)
none_drawn [] [] p bytes q h none = cc (h.0)

act_got : (p : DtlsContents) (act : DtlsAct) (acts : List DtlsAct) (q : DtlsContents) → DtlsActed plain_dtls p act q → HoldsNoData p.outputs
    → dtls_got acts ≡ [] → dtls_got (act ∷ acts) ≡ []
act_got p (Got bytes) acts q h none rest = absurd (none_drawn p.packets p.outputs p bytes q h none)
act_got p act acts q h none rest = rest

pub unfinished_got : (acts : List DtlsAct) (p q : DtlsContents) → DtlsMoved plain_dtls p acts q → phase_is_finished q.phase ≡ false
    → (phase_is_finished p.phase ≡ false) × (HoldsNoData p.outputs → dtls_got acts ≡ [])
unfinished_got [] p q h e = (ap (λ (x : DtlsContents). phase_is_finished x.phase) (sym h) ∙ e, λ none. refl)
unfinished_got (act ∷ acts) p q h e =
    let rest = unfinished_got acts h.0 q h.1.1 e in
    let first = act_waits p act h.0 h.1.0 rest.0 in
    (first.0, λ none. act_got p act acts h.0 h.1.0 none (rest.1 (first.1 none)))
