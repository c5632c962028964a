-- Application data that a plain part gives came in a packet before, and what it sends was handed to it before.
use Rattle.std.proofs.Common.{ℕ, ◌≡◌, ◌⊎◌, ◌==◌, inl, inr, Bool, true, false, cond, List, [], ◌∷◌, ◌++◌, length, Ok, Err, refl, sym, ap, subst, ◌∙◌, arith}
use Rattle.std.specs.Prelude.{nat_le}
use Rattle.std.proofs.lemmas.Bool.Decides.{eqb_tells}
use Rattle.rtc_parts.specs.Among.{Member}
use Rattle.rtc_parts.specs.declared.dtls_error.DtlsError.{DtlsError}
use Rattle.rtc_parts.specs.declared.dtls_error.DtlsError.TheVariants.{WouldBlock, Fault, Alloc}
use Rattle.rtc_parts.specs.DtlsDrawn.{DtlsDrawn, DrewPacket, DrewData}
use Rattle.rtc_parts.specs.DtlsActs.{DtlsAct, DtlsCall, Given, Taken, Sent, Got, Stirred, CertificateSet, Activated, VersionSet, SendRefused, TimedAt, Closed, Showed, DtlsActed, DtlsMoved}
use Rattle.rtc_parts.specs.DtlsWords.{dtls_given, dtls_sent}
use Rattle.rtc_parts.proofs.DtlsLemmas.{dtls_moved-split}
use Rattle.rtc_plain_dtls.specs.declared.output.Output.{Output}
use Rattle.rtc_plain_dtls.specs.declared.output.Output.TheVariants.{PeerCert, Keying, Connected, Data, Close}
use Rattle.rtc_plain_dtls.specs.declared.phase.Phase.{Phase}
use Rattle.rtc_plain_dtls.specs.declared.phase.Phase.TheVariants.{NoRole, AwaitStart, AwaitCert, AwaitHello, AwaitFinish, FinishedActive, FinishedPassive}
use Rattle.rtc_plain_dtls.specs.Held.{output_drawn}
use Rattle.rtc_plain_dtls.specs.Frames as said
use Rattle.rtc_plain_dtls.specs.Frames.{DtlsFrame, dtls_frame_in, handshake_in, alert_in, alone, close_packet}
use Rattle.rtc_plain_dtls.specs.Contents.{DtlsContents, fresh_dtls, phase_is_finished, asks_of}
use Rattle.rtc_plain_dtls.specs.Calls.{went_on, certificate_kept, role_set, packet_came, data_queued, moment_taken, sent_again, dtls_time_passed, close_packets, dtls_shut_down}
use Rattle.rtc_plain_dtls.specs.TakesLemmas.{Takes, frame_takes, again_repeats}
use Rattle.rtc_plain_dtls.specs.PlainMeaning.{plain_dtls, SendsDtls, PollsDtls}
use Rattle.rtc_plain_dtls.specs.PlainLaws.{leaves, sends, keeps_cert, adds_data, adds_close, timed_passes}

-- lists
member-append : {A : Type 0} (x : A) (xs ys : List A) → Member x (xs ++ ys) → Member x xs ⊎ Member x ys
member-append x [] ys m = inr m
member-append x (y ∷ xs) ys (inl h) = inl (inl h)
member-append x (y ∷ xs) ys (inr h) = elim (member-append x xs ys h) [ inl k ↦ inl (inr k) | inr k ↦ inr k ]

-- a frame with data is that of a packet of data
abbrev frame_is_data : DtlsFrame → Bool
frame_is_data (said.Data bytes) = true
frame_is_data _ = false

alone_no_data : (frame : DtlsFrame) (rest : List ℕ) → frame_is_data frame ≡ false → frame_is_data (alone frame rest) ≡ false
alone_no_data frame [] e = e
alone_no_data frame (x ∷ rest) e = refl

no_data_cond : (b : Bool) (x y : DtlsFrame) → frame_is_data x ≡ false → frame_is_data y ≡ false → frame_is_data (cond b x y) ≡ false
no_data_cond true x y h k = h
no_data_cond false x y h k = k

handshake_no_data : (rest : List ℕ) → frame_is_data (handshake_in rest) ≡ false
handshake_no_data [] = refl
handshake_no_data (mark ∷ bytes) =
    no_data_cond (nat_le (length bytes) 1900) _ said.Unknown
    (no_data_cond (mark == 1) (said.Hello bytes) _ refl (no_data_cond (mark == 2) (said.Certificate bytes) _ refl (no_data_cond (mark == 3) (alone said.Finish bytes) said.Unknown (alone_no_data said.Finish bytes refl) refl))) refl

alert_no_data : (rest : List ℕ) → frame_is_data (alert_in rest) ≡ false
alert_no_data [] = refl
alert_no_data (mark ∷ bytes) = no_data_cond (mark == 1) (alone said.Close bytes) said.Unknown (alone_no_data said.Close bytes refl) refl

no_data_frame : (frame : DtlsFrame) (bytes : List ℕ) → frame_is_data frame ≡ false → frame ≡ said.Data bytes → ⊥
no_data_frame frame bytes e h = absurd (let k : false ≡ true = sym e ∙ ap frame_is_data h in cc)

short_data : (b : Bool) (rest bytes : List ℕ) → cond b (said.Data rest) said.Unknown ≡ said.Data bytes → rest ≡ bytes
short_data true rest bytes h = cc
short_data false rest bytes h = absurd (cc h)

frame_data : (packet bytes : List ℕ) → dtls_frame_in packet ≡ said.Data bytes → (23 ∷ bytes) ≡ packet
frame_data [] bytes h = absurd (cc h)
frame_data (kind ∷ rest) bytes h = elim (eqb_tells kind 23) [
  | inl e ↦
      let k = rw e.0 at h in
      let same : rest ≡ bytes = short_data (nat_le (length rest) 1900) rest bytes k in
      cc (e.1, same)
  | inr e ↦
      let k = rw e.0 at h in
      absurd (no_data_frame _ bytes (no_data_cond (kind == 22) (handshake_in rest) _ (handshake_no_data rest) (no_data_cond (kind == 21) (alert_in rest) said.Unknown (alert_no_data rest) refl)) k)
]

-- a poll gives of what is queued, and leaves the rest
polled_outputs : (packets : List (List ℕ)) (outputs : List Output) (p q : DtlsContents) (drawn : DtlsDrawn) (x : Output) → p.outputs ≡ outputs → PollsDtls packets outputs p drawn q → Member x q.outputs → Member x p.outputs
polled_outputs (y ∷ packets) outputs p q drawn x f h m = subst (λ (c : DtlsContents). Member x c.outputs) h.2 m
polled_outputs [] (y ∷ outputs) p q drawn x f h m = subst (λ (l : List Output). Member x l) (sym f) (inr (subst (λ (c : DtlsContents). Member x c.outputs) h.2 m))
polled_outputs [] [] p q drawn x f h m = subst (λ (c : DtlsContents). Member x c.outputs) h.1 m

polled_packets : (packets : List (List ℕ)) (outputs : List Output) (p q : DtlsContents) (drawn : DtlsDrawn) (x : List ℕ) → p.packets ≡ packets → PollsDtls packets outputs p drawn q → Member x q.packets → Member x p.packets
polled_packets (y ∷ packets) outputs p q drawn x e h m = subst (λ (l : List (List ℕ)). Member x l) (sym e) (inr (subst (λ (c : DtlsContents). Member x c.packets) h.2 m))
polled_packets [] (y ∷ outputs) p q drawn x e h m = subst (λ (c : DtlsContents). Member x c.packets) h.2 m
polled_packets [] [] p q drawn x e h m = subst (λ (c : DtlsContents). Member x c.packets) h.1 m

drawn_data : (output : Output) (bytes : List ℕ) → DrewData bytes ≡ output_drawn output → Data bytes ≡ output
drawn_data (PeerCert cert) bytes h = absurd (cc h)
drawn_data Keying bytes h = absurd (cc h)
drawn_data Connected bytes h = absurd (cc h)
drawn_data (Data came) bytes h = let e : bytes ≡ came = cc h in ap Data e
drawn_data Close bytes h = absurd (cc h)

polled_data : (packets : List (List ℕ)) (outputs : List Output) (p q : DtlsContents) (bytes : List ℕ) → PollsDtls packets outputs p (DrewData bytes) q → Member (Data bytes) outputs
polled_data (y ∷ packets) outputs p q bytes h = absurd (cc (h.0))
polled_data [] (y ∷ outputs) p q bytes h = inl (drawn_data y bytes h.0)
polled_data [] [] p q bytes h = absurd (cc (h.0))

polled_packet : (packets : List (List ℕ)) (outputs : List Output) (p q : DtlsContents) (packet : List ℕ) → PollsDtls packets outputs p (DrewPacket packet) q → Member packet packets
polled_packet (y ∷ packets) outputs p q packet h = inl (cc (h.0))
polled_packet [] (y ∷ outputs) p q packet h = absurd (no_packet y h.0)
  where
    no_packet : (y : Output) → DrewPacket packet ≡ output_drawn y → ⊥
    no_packet (PeerCert cert) h = cc h
    no_packet Keying h = cc h
    no_packet Connected h = cc h
    no_packet (Data came) h = cc h
    no_packet Close h = cc h
polled_packet [] [] p q packet h = absurd (cc (h.0))

-- the calls that tell nothing
kept-outputs : (cert : List ℕ) (p : DtlsContents) → ((certificate_kept cert p).outputs ≡ p.outputs) × ((certificate_kept cert p).packets ≡ p.packets)
unfolding certificate_kept
kept-outputs cert p = (refl, refl)

role-outputs : (active : Bool) (p : DtlsContents) → ((role_set active p).outputs ≡ p.outputs) × ((role_set active p).packets ≡ p.packets)
unfolding role_set
role-outputs active p = (refl, refl)

abbrev OutputsOf : Output → DtlsContents → DtlsContents → Type 0
OutputsOf x p q = Member x q.outputs → Member x p.outputs

same_outputs : (x : Output) (p q : DtlsContents) → q.outputs ≡ p.outputs → OutputsOf x p q
same_outputs x p q e m = subst (λ (l : List Output). Member x l) e m

call_outputs : (x : Output) (p q : DtlsContents) (call : DtlsCall) → DtlsActed plain_dtls p (Stirred call) q → OutputsOf x p q
call_outputs x p q (CertificateSet cert r) h = keeps_cert (OutputsOf x p) p (certificate_kept cert p) q r (λ m. m) (same_outputs x p (certificate_kept cert p) (kept-outputs cert p).0) h
call_outputs x p q (Activated active) h = same_outputs x p q (ap (λ (c : DtlsContents). c.outputs) h ∙ (role-outputs active p).0)
call_outputs x p q (VersionSet v) h = same_outputs x p q (ap (λ (c : DtlsContents). c.outputs) h)
call_outputs x p q (SendRefused bytes e) h = sends (OutputsOf x p) (phase_is_finished p.phase) p (data_queued bytes p) q (Err e) (λ m. m) (same_outputs x p (data_queued bytes p) (adds_data bytes p).outputs) h
call_outputs x p q (TimedAt now r) h = leaves (OutputsOf x p) p (dtls_time_passed now p) q r (λ m. m) (same_outputs x p (dtls_time_passed now p) (timed_passes now p).outputs) h
call_outputs x p q (Closed r) h = leaves (OutputsOf x p) p (dtls_shut_down p) q r (λ m. m) (same_outputs x p (dtls_shut_down p) (adds_close p).outputs) h
call_outputs x p q (Showed drawn) h = polled_outputs p.packets p.outputs p q drawn x refl h.1

-- data is told where it stood told, or came in this packet
abbrev CameIn : List ℕ → List ℕ → DtlsContents → DtlsContents → Type 0
CameIn bytes packet p q = Member (Data bytes) q.outputs → ((23 ∷ bytes) ≡ packet) ⊎ Member (Data bytes) p.outputs

came_in : (bytes packet : List ℕ) (p : DtlsContents) → CameIn bytes packet p (packet_came packet p)
came_in bytes packet p m =
    let t = frame_takes (dtls_frame_in packet) p in
    elim (member-append (Data bytes) p.outputs t.told (subst (λ (l : List Output). Member (Data bytes) l) t.outputs m)) [
      | inl k ↦ inr k
      | inr k ↦ inl (frame_data packet bytes (t.got bytes k))
    ]

got_held : (bytes : List ℕ) (acts : List DtlsAct) (p r : DtlsContents) → DtlsMoved plain_dtls p acts r → Member (Data bytes) r.outputs → Member (23 ∷ bytes) (dtls_given acts) ⊎ Member (Data bytes) p.outputs
got_held bytes [] p r h m = inr (subst (λ (c : DtlsContents). Member (Data bytes) c.outputs) h m)
got_held bytes (Given packet ∷ acts) p r h m = elim (got_held bytes acts h.0 r h.1.1 m) [
  | inl k ↦ inl (inr k)
  | inr k ↦ elim (leaves (CameIn bytes packet p) p (packet_came packet p) h.0 h.1.0.0 (λ n. inr n) (came_in bytes packet p) h.1.0.1 k) [ inl e ↦ inl (inl e) | inr n ↦ inr n ]
]
got_held bytes (Taken packet ∷ acts) p r h m = elim (got_held bytes acts h.0 r h.1.1 m) [
  | inl k ↦ inl k
  | inr k ↦ inr (polled_outputs p.packets p.outputs p h.0 (DrewPacket packet) (Data bytes) refl h.1.0 k)
]
got_held bytes (Sent b ∷ acts) p r h m = elim (got_held bytes acts h.0 r h.1.1 m) [
  | inl k ↦ inl k
  | inr k ↦ inr (sends (OutputsOf (Data bytes) p) (phase_is_finished p.phase) p (data_queued b p) h.0 (Ok tt) (λ n. n) (same_outputs (Data bytes) p (data_queued b p) (adds_data b p).outputs) h.1.0 k)
]
got_held bytes (Got b ∷ acts) p r h m = elim (got_held bytes acts h.0 r h.1.1 m) [
  | inl k ↦ inl k
  | inr k ↦ inr (polled_outputs p.packets p.outputs p h.0 (DrewData b) (Data bytes) refl h.1.0 k)
]
got_held bytes (Stirred call ∷ acts) p r h m = elim (got_held bytes acts h.0 r h.1.1 m) [
  | inl k ↦ inl k
  | inr k ↦ inr (call_outputs (Data bytes) p h.0 call h.1.0 k)
]

-- what a part gives of application data came in a packet before
pub got_came : (p q : DtlsContents) (before after : List DtlsAct) (bytes : List ℕ) → p ≡ fresh_dtls → DtlsMoved plain_dtls p (before ++ Got bytes ∷ after) q → Member (23 ∷ bytes) (dtls_given before)
got_came p q before after bytes f h =
    let mid = dtls_moved-split plain_dtls p q before (Got bytes ∷ after) h in
    let held : Member (Data bytes) mid.0.outputs = polled_data mid.0.packets mid.0.outputs mid.0 mid.1.1.0 bytes mid.1.1.1.0 in
    elim (got_held bytes before p mid.0 mid.1.0 held) [
      | inl k ↦ k
      | inr k ↦ absurd (subst (λ (c : DtlsContents). Member (Data bytes) c.outputs) f k)
    ]

-- packets of application data
abbrev PacketsOf : List ℕ → DtlsContents → DtlsContents → Type 0
PacketsOf x p q = Member x q.packets → Member x p.packets

same_packets : (x : List ℕ) (p q : DtlsContents) → q.packets ≡ p.packets → PacketsOf x p q
same_packets x p q e m = subst (λ (l : List (List ℕ)). Member x l) e m

takes_packets : (bytes : List ℕ) (frame : DtlsFrame) (p q : DtlsContents) → Takes frame p q → PacketsOf (23 ∷ bytes) p q
takes_packets bytes frame p q t m = elim (member-append (23 ∷ bytes) p.packets t.sent (subst (λ (l : List (List ℕ)). Member (23 ∷ bytes) l) t.packets m)) [ inl k ↦ k | inr k ↦ absurd (t.unsent bytes k) ]

abbrev first_byte : List ℕ → ℕ
first_byte [] = 0
first_byte (b ∷ bytes) = b

close_packet_no_data : (bytes : List ℕ) → Member (23 ∷ bytes) (close_packet ∷ []) → ⊥
close_packet_no_data bytes (inl h) = let e : 23 ≡ 21 = ap first_byte h in absurd (omega (arith, e))
close_packet_no_data bytes (inr h) = h

close_no_data : (phase : Phase) (bytes : List ℕ) → Member (23 ∷ bytes) (close_packets phase) → ⊥
close_no_data NoRole bytes m = m
close_no_data AwaitStart bytes m = close_packet_no_data bytes m
close_no_data AwaitCert bytes m = close_packet_no_data bytes m
close_no_data AwaitHello bytes m = close_packet_no_data bytes m
close_no_data AwaitFinish bytes m = close_packet_no_data bytes m
close_no_data FinishedActive bytes m = close_packet_no_data bytes m
close_no_data FinishedPassive bytes m = close_packet_no_data bytes m

shut_packets : (bytes : List ℕ) (p : DtlsContents) → PacketsOf (23 ∷ bytes) p (dtls_shut_down p)
unfolding dtls_shut_down
shut_packets bytes p m = elim (member-append (23 ∷ bytes) p.packets (close_packets p.phase) m) [ inl k ↦ k | inr k ↦ absurd (close_no_data p.phase bytes k) ]

again_packets : (bytes : List ℕ) (b : Bool) (now : ℕ) (p : DtlsContents) → PacketsOf (23 ∷ bytes) p (moment_taken now (cond b (sent_again p.phase p) p))
unfolding moment_taken
again_packets bytes true now p m = takes_packets bytes said.Unknown p (sent_again p.phase p) (again_repeats p.phase p).takes m
again_packets bytes false now p m = m

queued_packets : (sent bytes : List ℕ) (p : DtlsContents) → Member (23 ∷ bytes) (data_queued sent p).packets → (bytes ≡ sent) ⊎ Member (23 ∷ bytes) p.packets
unfolding went_on
queued_packets sent bytes p m = elim (member-append (23 ∷ bytes) p.packets ((23 ∷ sent) ∷ []) m) [
  | inl k ↦ inr k
  | inr k ↦ elim k [ inl e ↦ inl (cc e) | inr n ↦ absurd n ]
]

refused_same : (b : Bool) (p done q : DtlsContents) (e : DtlsError) → SendsDtls b p done (Err e) q → q ≡ p
refused_same true p done q WouldBlock h = absurd h
refused_same true p done q Fault h = absurd h
refused_same true p done q Alloc h = h
refused_same false p done q e h = h.1

call_packets : (bytes : List ℕ) (p q : DtlsContents) (call : DtlsCall) → DtlsActed plain_dtls p (Stirred call) q → PacketsOf (23 ∷ bytes) p q
call_packets bytes p q (CertificateSet cert r) h = keeps_cert (PacketsOf (23 ∷ bytes) p) p (certificate_kept cert p) q r (λ m. m) (same_packets (23 ∷ bytes) p (certificate_kept cert p) (kept-outputs cert p).1) h
call_packets bytes p q (Activated active) h = same_packets (23 ∷ bytes) p q (ap (λ (c : DtlsContents). c.packets) h ∙ (role-outputs active p).1)
call_packets bytes p q (VersionSet v) h = same_packets (23 ∷ bytes) p q (ap (λ (c : DtlsContents). c.packets) h)
call_packets bytes p q (SendRefused b e) h = same_packets (23 ∷ bytes) p q (ap (λ (c : DtlsContents). c.packets) (refused_same (phase_is_finished p.phase) p (data_queued b p) q e h))
call_packets bytes p q (TimedAt now r) h = leaves (PacketsOf (23 ∷ bytes) p) p (dtls_time_passed now p) q r (λ m. m) (again_packets bytes (nat_le (asks_of p) now) now p) h
call_packets bytes p q (Closed r) h = leaves (PacketsOf (23 ∷ bytes) p) p (dtls_shut_down p) q r (λ m. m) (shut_packets bytes p) h
call_packets bytes p q (Showed drawn) h = polled_packets p.packets p.outputs p q drawn (23 ∷ bytes) refl h.1

abbrev WasSent : List ℕ → List ℕ → DtlsContents → DtlsContents → Type 0
WasSent bytes sent p q = Member (23 ∷ bytes) q.packets → (bytes ≡ sent) ⊎ Member (23 ∷ bytes) p.packets

taken_held : (bytes : List ℕ) (acts : List DtlsAct) (p r : DtlsContents) → DtlsMoved plain_dtls p acts r → Member (23 ∷ bytes) r.packets → Member bytes (dtls_sent acts) ⊎ Member (23 ∷ bytes) p.packets
taken_held bytes [] p r h m = inr (subst (λ (c : DtlsContents). Member (23 ∷ bytes) c.packets) h m)
taken_held bytes (Given packet ∷ acts) p r h m = elim (taken_held bytes acts h.0 r h.1.1 m) [
  | inl k ↦ inl k
  | inr k ↦ inr (leaves (PacketsOf (23 ∷ bytes) p) p (packet_came packet p) h.0 h.1.0.0 (λ n. n) (takes_packets bytes (dtls_frame_in packet) p (packet_came packet p) (frame_takes (dtls_frame_in packet) p)) h.1.0.1 k)
]
taken_held bytes (Taken packet ∷ acts) p r h m = elim (taken_held bytes acts h.0 r h.1.1 m) [
  | inl k ↦ inl k
  | inr k ↦ inr (polled_packets p.packets p.outputs p h.0 (DrewPacket packet) (23 ∷ bytes) refl h.1.0 k)
]
taken_held bytes (Sent b ∷ acts) p r h m = elim (taken_held bytes acts h.0 r h.1.1 m) [
  | inl k ↦ inl (inr k)
  | inr k ↦ elim (sends (WasSent bytes b p) (phase_is_finished p.phase) p (data_queued b p) h.0 (Ok tt) (λ n. inr n) (λ n. queued_packets b bytes p n) h.1.0 k) [ inl e ↦ inl (inl e) | inr n ↦ inr n ]
]
taken_held bytes (Got b ∷ acts) p r h m = elim (taken_held bytes acts h.0 r h.1.1 m) [
  | inl k ↦ inl k
  | inr k ↦ inr (polled_packets p.packets p.outputs p h.0 (DrewData b) (23 ∷ bytes) refl h.1.0 k)
]
taken_held bytes (Stirred call ∷ acts) p r h m = elim (taken_held bytes acts h.0 r h.1.1 m) [
  | inl k ↦ inl k
  | inr k ↦ inr (call_packets bytes p h.0 call h.1.0 k)
]

-- a packet of application data that a part sends was handed to it before
pub taken_sent : (p q : DtlsContents) (before after : List DtlsAct) (bytes : List ℕ) → p ≡ fresh_dtls → DtlsMoved plain_dtls p (before ++ Taken (23 ∷ bytes) ∷ after) q → Member bytes (dtls_sent before)
taken_sent p q before after bytes f h =
    let mid = dtls_moved-split plain_dtls p q before (Taken (23 ∷ bytes) ∷ after) h in
    let held : Member (23 ∷ bytes) mid.0.packets = polled_packet mid.0.packets mid.0.outputs mid.0 mid.1.1.0 (23 ∷ bytes) mid.1.1.1.0 in
    elim (taken_held bytes before p mid.0 mid.1.0 held) [
      | inl k ↦ k
      | inr k ↦ absurd (subst (λ (c : DtlsContents). Member (23 ∷ bytes) c.packets) f k)
    ]
