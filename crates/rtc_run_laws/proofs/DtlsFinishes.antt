-- A plain DTLS part reports that it is connected only once its handshake is finished, and a finished handshake stays so.
use Rattle.std.proofs.Common.{◌≡◌, ◌∙◌, ◌⊎◌, ◌++◌, ◌∷◌, if◌then◌else◌, inl, inr, ℕ, Bool, true, false, true≢false, List, [], Result, Ok, Err, refl, sym, ap, subst}
use Rattle.std.specs.Prelude.{nat_le}
use Rattle.std.specs.declared.alloc.AllocError.{AllocError}
use Rattle.rtc_parts.specs.Among.{Member}
use Rattle.rtc_parts.specs.declared.dtls_error.DtlsError.{DtlsError}
use Rattle.rtc_parts.specs.declared.dtls_error.DtlsError.TheVariants.{WouldBlock, Fault, Alloc}
use Rattle.rtc_parts.specs.DtlsActs.{DtlsAct, DtlsCall, DtlsActed, DtlsCalled, DtlsMoved, Given, Taken, Sent, Got, Stirred}
use Rattle.rtc_parts.specs.DtlsActs.{CertificateSet, Activated, VersionSet, SendRefused, TimedAt, Closed, Showed}
use Rattle.rtc_parts.specs.DtlsDrawn.{DtlsDrawn, DrewConnected, DrewData, DrewPacket}
use Rattle.rtc_plain_dtls.specs.declared.output.Output.{Output}
use Rattle.rtc_plain_dtls.specs.declared.output.Output.TheVariants.{PeerCert, Keying, Connected, Data, Close}
use Rattle.rtc_plain_dtls.specs.declared.phase.Phase.{Phase}
use Rattle.rtc_plain_dtls.specs.declared.phase.Phase.TheVariants.{NoRole, AwaitStart, AwaitCert, AwaitHello, AwaitFinish, FinishedActive, FinishedPassive}
use Rattle.rtc_plain_dtls.specs.Frames as said
use Rattle.rtc_plain_dtls.specs.Frames.{DtlsFrame, dtls_frame_in}
use Rattle.rtc_plain_dtls.specs.Contents.{DtlsContents, asks_of, phase_is_finished}
use Rattle.rtc_plain_dtls.specs.Calls.{went_on, certificate_kept, role_taken, role_set, start_came, hello_came, certificate_came, finish_came, data_came, close_told, dtls_close_came, frame_came, packet_came, data_queued, sent_again, moment_taken, dtls_time_passed, dtls_shut_down, dtls_packet_given, dtls_output_given}
use Rattle.rtc_plain_dtls.specs.Held.{output_drawn}
use Rattle.rtc_plain_dtls.specs.PlainMeaning.{plain_dtls, LeavesDtls, SendsDtls, PollsDtls, KeepsCert}

member_or : {A : Type 0} (x : A) (xs ys : List A) → Member x (xs ++ ys) → Member x xs ⊎ Member x ys
member_or x [] ys h = inr h
member_or x (y ∷ xs) ys (inl h) = inl (inl h)
member_or x (y ∷ xs) ys (inr h) = by (member_or x xs ys h)
  where
    by : Member x xs ⊎ Member x ys → Member x (y ∷ xs) ⊎ Member x ys
    by (inl k) = inl (inr k)
    by (inr k) = inr k

-- that it is connected is among its outputs only once its handshake is finished
abbrev pub TellsFinished : DtlsContents → Type 0
TellsFinished d = Member Connected d.outputs → phase_is_finished d.phase ≡ true

-- a finished handshake stays so, and so does the above
pub record Finishes (d e : DtlsContents) : Type 0 where
  pub stays : phase_is_finished d.phase ≡ true → phase_is_finished e.phase ≡ true
  pub tells : TellsFinished d → TellsFinished e

pub finishes_none : (d : DtlsContents) → Finishes d d
finishes_none d = record { stays = λ f. f; tells = λ t. t }

pub finishes_at : (d n e : DtlsContents) → e ≡ n → Finishes d n → Finishes d e
finishes_at d n e is h = subst (λ (x : DtlsContents). Finishes d x) (sym is) h

pub finishes_on : (d n e : DtlsContents) → Finishes d n → Finishes n e → Finishes d e
finishes_on d n e h k = record { stays = λ f. k.stays (h.stays f); tells = λ t. k.tells (h.tells t) }

-- ---- calls

went : (phase : Phase) (outputs : List Output) (packets : List (List ℕ)) (d : DtlsContents)
    → (phase_is_finished d.phase ≡ true → phase_is_finished phase ≡ true) → (Member Connected outputs → phase_is_finished phase ≡ true)
    → Finishes d (went_on phase outputs packets d)
unfolding went_on
went phase outputs packets d stays new = record { stays = stays; tells = λ t k. by t (member_or Connected d.outputs outputs k) }
  where
    by : TellsFinished d → Member Connected d.outputs ⊎ Member Connected outputs → phase_is_finished phase ≡ true
    by t (inl k) = stays (t k)
    by t (inr k) = new k

-- a handshake in this phase is not finished
not_in : (d : DtlsContents) (phase : Phase) → d.phase ≡ phase → phase_is_finished phase ≡ false → phase_is_finished d.phase ≡ true → ⊥
not_in d phase is none f = true≢false (sym f ∙ ap phase_is_finished is ∙ none)

cert_only : (cert : List ℕ) → Member Connected (PeerCert cert ∷ []) → ⊥
cert_only cert (inl e) = let clash : Connected ≡ PeerCert cert = e in cc
cert_only cert (inr k) = k

close_only : Member Connected (Close ∷ []) → ⊥
close_only (inl e) = let clash : Connected ≡ Close = e in cc
close_only (inr k) = k

start : (phase : Phase) (d : DtlsContents) → d.phase ≡ phase → Finishes d (start_came phase d)
start NoRole d is = finishes_none d
start AwaitStart d is = went AwaitCert [] _ d (λ f. absurd (not_in d AwaitStart is refl f)) (λ k. absurd k)
start AwaitCert d is = finishes_none d
start AwaitHello d is = finishes_none d
start AwaitFinish d is = finishes_none d
start FinishedActive d is = finishes_none d
start FinishedPassive d is = finishes_none d

hello : (phase : Phase) (cert : List ℕ) (d : DtlsContents) → d.phase ≡ phase → Finishes d (hello_came phase cert d)
hello NoRole cert d is = finishes_none d
hello AwaitStart cert d is = finishes_none d
hello AwaitCert cert d is = finishes_none d
hello AwaitHello cert d is =
    went AwaitFinish (PeerCert cert ∷ []) _ d (λ f. absurd (not_in d AwaitHello is refl f)) (λ k. absurd (cert_only cert k))
hello AwaitFinish cert d is = went AwaitFinish [] _ d (λ f. absurd (not_in d AwaitFinish is refl f)) (λ k. absurd k)
hello FinishedActive cert d is = finishes_none d
hello FinishedPassive cert d is = finishes_none d

certificate : (phase : Phase) (cert : List ℕ) (d : DtlsContents) → Finishes d (certificate_came phase cert d)
certificate NoRole cert d = finishes_none d
certificate AwaitStart cert d = went FinishedActive (PeerCert cert ∷ Keying ∷ Connected ∷ []) _ d (λ f. refl) (λ k. refl)
certificate AwaitCert cert d = went FinishedActive (PeerCert cert ∷ Keying ∷ Connected ∷ []) _ d (λ f. refl) (λ k. refl)
certificate AwaitHello cert d = finishes_none d
certificate AwaitFinish cert d = finishes_none d
certificate FinishedActive cert d = went FinishedActive [] _ d (λ f. refl) (λ k. refl)
certificate FinishedPassive cert d = finishes_none d

finish : (phase : Phase) (d : DtlsContents) → Finishes d (finish_came phase d)
finish NoRole d = finishes_none d
finish AwaitStart d = finishes_none d
finish AwaitCert d = finishes_none d
finish AwaitHello d = finishes_none d
finish AwaitFinish d = went FinishedPassive (Keying ∷ Connected ∷ []) [] d (λ f. refl) (λ k. refl)
finish FinishedActive d = finishes_none d
finish FinishedPassive d = finishes_none d

data_taken : (phase : Phase) (bytes : List ℕ) (d : DtlsContents) → Finishes d (data_came phase bytes d)
data_taken NoRole bytes d = finishes_none d
data_taken AwaitStart bytes d = finishes_none d
data_taken AwaitCert bytes d = finishes_none d
data_taken AwaitHello bytes d = finishes_none d
data_taken AwaitFinish bytes d = went FinishedPassive (Keying ∷ Connected ∷ Data bytes ∷ []) [] d (λ f. refl) (λ k. refl)
data_taken FinishedActive bytes d = went FinishedActive (Data bytes ∷ []) [] d (λ f. refl) (λ k. refl)
data_taken FinishedPassive bytes d = went FinishedPassive (Data bytes ∷ []) [] d (λ f. refl) (λ k. refl)

close_said : (d : DtlsContents) → Finishes d (close_told d)
unfolding close_told
close_said d = record { stays = λ f. f; tells = λ t k. by t (member_or Connected d.outputs (Close ∷ []) k) }
  where
    by : TellsFinished d → Member Connected d.outputs ⊎ Member Connected (Close ∷ []) → phase_is_finished d.phase ≡ true
    by t (inl k) = t k
    by t (inr k) = absurd (close_only k)

closed : (notified : Bool) (d : DtlsContents) → Finishes d (dtls_close_came notified d)
closed true d = finishes_none d
closed false d = close_said d

frame : (f : DtlsFrame) (d : DtlsContents) → Finishes d (frame_came f d)
frame said.Start d = start d.phase d refl
frame (said.Hello cert) d = hello d.phase cert d refl
frame (said.Certificate cert) d = certificate d.phase cert d
frame said.Finish d = finish d.phase d
frame (said.Data bytes) d = data_taken d.phase bytes d
frame said.Close d = closed d.notified d
frame said.Unknown d = finishes_none d

again : (phase : Phase) (d : DtlsContents) → d.phase ≡ phase → Finishes d (sent_again phase d)
again NoRole d is = finishes_none d
again AwaitStart d is = went AwaitCert [] _ d (λ f. absurd (not_in d AwaitStart is refl f)) (λ k. absurd k)
again AwaitCert d is = went AwaitCert [] _ d (λ f. absurd (not_in d AwaitCert is refl f)) (λ k. absurd k)
again AwaitHello d is = finishes_none d
again AwaitFinish d is = went AwaitFinish [] _ d (λ f. absurd (not_in d AwaitFinish is refl f)) (λ k. absurd k)
again FinishedActive d is = finishes_none d
again FinishedPassive d is = finishes_none d

moment : (now : ℕ) (d n : DtlsContents) → Finishes d n → Finishes d (moment_taken now n)
unfolding moment_taken
moment now d n h = record { stays = h.stays; tells = h.tells }

pub time_finishes : (now : ℕ) (d : DtlsContents) → Finishes d (dtls_time_passed now d)
time_finishes now d = moment now d (if nat_le (asks_of d) now then sent_again d.phase d else d) (by (nat_le (asks_of d) now))
  where
    by : (b : Bool) → Finishes d (if b then sent_again d.phase d else d)
    by true = again d.phase d refl
    by false = finishes_none d

role_stays : (active : Bool) (phase : Phase) → phase_is_finished phase ≡ true → phase_is_finished (role_taken active phase) ≡ true
role_stays active NoRole f = absurd (true≢false (sym f))
role_stays active AwaitStart f = absurd (true≢false (sym f))
role_stays active AwaitCert f = absurd (true≢false (sym f))
role_stays active AwaitHello f = absurd (true≢false (sym f))
role_stays active AwaitFinish f = absurd (true≢false (sym f))
role_stays true FinishedActive f = refl
role_stays false FinishedActive f = refl
role_stays true FinishedPassive f = refl
role_stays false FinishedPassive f = refl

role : (active : Bool) (d : DtlsContents) → Finishes d (role_set active d)
unfolding role_set
role active d = record { stays = λ f. role_stays active d.phase f; tells = λ t k. role_stays active d.phase (t k) }

kept : (cert : List ℕ) (d : DtlsContents) → Finishes d (certificate_kept cert d)
unfolding certificate_kept
kept cert d = record { stays = λ f. f; tells = λ t. t }

shut : (d : DtlsContents) → Finishes d (dtls_shut_down d)
unfolding dtls_shut_down
shut d = record { stays = λ f. f; tells = λ t. t }

-- ---- results

pub leaves_finishes : (d done : DtlsContents) (r : Result (Unit {0}) DtlsError) (e : DtlsContents) → Finishes d done → LeavesDtls d done r e → Finishes d e
leaves_finishes d done (Ok x) e after h = finishes_at d done e h after
leaves_finishes d done (Err WouldBlock) e after h = absurd h
leaves_finishes d done (Err Fault) e after h = absurd h
leaves_finishes d done (Err Alloc) e after h = finishes_at d d e h (finishes_none d)

sends : (b : Bool) (d done : DtlsContents) (r : Result (Unit {0}) DtlsError) (e : DtlsContents) → Finishes d done → SendsDtls b d done r e → Finishes d e
sends true d done r e after h = leaves_finishes d done r e after h
sends false d done r e after h = finishes_at d d e h.1 (finishes_none d)

queued : (bytes : List ℕ) (d : DtlsContents) → Finishes d (data_queued bytes d)
queued bytes d = went d.phase [] _ d (λ f. f) (λ k. absurd k)

keeps : (d : DtlsContents) (cert : List ℕ) (r : Result (Unit {0}) AllocError) (e : DtlsContents) → KeepsCert d (certificate_kept cert d) r e → Finishes d e
keeps d cert (Ok x) e h = finishes_at d (certificate_kept cert d) e h (kept cert d)
keeps d cert (Err x) e h = finishes_at d d e h (finishes_none d)

-- a poll of it takes an output from it at most
drawn : (packets : List (List ℕ)) (outputs : List Output) (d : DtlsContents) (x : DtlsDrawn) (e : DtlsContents) → d.outputs ≡ outputs
    → PollsDtls packets outputs d x e → Finishes d e
drawn (packet ∷ packets) outputs d x e is h =
    finishes_at d (dtls_packet_given packets d) e h.2 (record { stays = λ f. f; tells = λ t. t })
drawn [] (output ∷ outputs) d x e is h =
    finishes_at d (dtls_output_given outputs d) e h.2
    (record { stays = λ f. f; tells = λ t k. t (subst (λ (l : List Output). Member Connected l) (sym is) (inr k)) })
drawn [] [] d x e is h = finishes_at d d e h.1 (finishes_none d)

-- one that reports that it is connected
connected_first : (output : Output) (outputs : List Output) (d e : DtlsContents) → d.outputs ≡ output ∷ outputs → DrewConnected ≡ output_drawn output
    → e ≡ dtls_output_given outputs d → TellsFinished d → phase_is_finished e.phase ≡ true
connected_first Connected outputs d e is drew same t =
    ap (λ (x : DtlsContents). phase_is_finished x.phase) same ∙ t (subst (λ (l : List Output). Member Connected l) (sym is) (inl refl))
connected_first (PeerCert cert) outputs d e is drew same t = cc (drew)
connected_first Keying outputs d e is drew same t = cc (drew)
connected_first (Data bytes) outputs d e is drew same t = cc (drew)
connected_first Close outputs d e is drew same t = cc (drew)

pub connected_finished : (packets : List (List ℕ)) (outputs : List Output) (d e : DtlsContents) → d.outputs ≡ outputs
    → PollsDtls packets outputs d DrewConnected e → TellsFinished d → phase_is_finished e.phase ≡ true
connected_finished (packet ∷ packets) outputs d e is h t = cc (h.0)
connected_finished [] (output ∷ outputs) d e is h t = connected_first output outputs d e is h.0 h.2 t
connected_finished [] [] d e is h t = cc (h.0)

-- ---- acts

pub drawn_finishes : (d : DtlsContents) (x : DtlsDrawn) (e : DtlsContents) → PollsDtls d.packets d.outputs d x e → Finishes d e
drawn_finishes d x e h = drawn d.packets d.outputs d x e refl h

called : (d : DtlsContents) (call : DtlsCall) (e : DtlsContents) → DtlsCalled plain_dtls d call e → Finishes d e
called d (CertificateSet cert answer) e h = keeps d cert answer e h
called d (Activated active) e h = finishes_at d (role_set active d) e h (role active d)
called d (VersionSet version) e h = finishes_at d d e h (finishes_none d)
called d (SendRefused bytes cause) e h = sends (phase_is_finished d.phase) d (data_queued bytes d) (Err cause) e (queued bytes d) h
called d (TimedAt now answer) e h = leaves_finishes d (dtls_time_passed now d) answer e (time_finishes now d) h
called d (Closed answer) e h = leaves_finishes d (dtls_shut_down d) answer e (shut d) h
called d (Showed x) e h = drawn_finishes d x e h.1

acted : (d : DtlsContents) (act : DtlsAct) (e : DtlsContents) → DtlsActed plain_dtls d act e → Finishes d e
acted d (Given packet) e h = leaves_finishes d (packet_came packet d) h.0 e (frame (dtls_frame_in packet) d) h.1
acted d (Taken packet) e h = drawn_finishes d (DrewPacket packet) e h
acted d (Sent bytes) e h = sends (phase_is_finished d.phase) d (data_queued bytes d) (Ok tt) e (queued bytes d) h
acted d (Got bytes) e h = drawn_finishes d (DrewData bytes) e h
acted d (Stirred call) e h = called d call e h

pub moved_finishes : (acts : List DtlsAct) (d e : DtlsContents) → DtlsMoved plain_dtls d acts e → Finishes d e
moved_finishes [] d e h = finishes_at d d e h (finishes_none d)
moved_finishes (act ∷ acts) d e h = finishes_on d h.0 e (acted d act h.0 h.1.0) (moved_finishes acts h.0 e h.1.1)
