-- What each act of a plain DTLS part leaves of its role, of what it got of the handshake, and of what it queues.
use Rattle.std.proofs.Common.{◌≡◌, ◌∙◌, ◌∷◌, inl, inr, ℕ, Bool, true, false, if◌then◌else◌, List, [], Option, Some, Ok, Err, refl, sym, ap, subst, arith}
use Rattle.std.specs.Prelude.{nat_le}
use Rattle.rtc_parts.specs.Among.{Member}
use Rattle.rtc_parts.proofs.AmongLemmas.{member-append}
use Rattle.rtc_parts.specs.DtlsDrawn.{DtlsDrawn, DrewPacket, DrewData}
use Rattle.rtc_parts.specs.DtlsActs.{DtlsAct, DtlsCall, Given, Taken, Sent, Got, Stirred, CertificateSet, Activated, VersionSet, SendRefused, TimedAt, Closed, Showed, DtlsActed}
use Rattle.rtc_parts.specs.DtlsWords.{dtls_given}
use Rattle.rtc_plain_dtls.specs.declared.output.Output.{Output}
use Rattle.rtc_plain_dtls.specs.declared.output.Output.TheVariants.{PeerCert, Keying, Connected, Data}
use Rattle.rtc_plain_dtls.specs.declared.phase.Phase.{Phase}
use Rattle.rtc_plain_dtls.specs.declared.phase.Phase.TheVariants.{NoRole, AwaitStart, AwaitCert, AwaitHello, AwaitFinish, FinishedActive, FinishedPassive}
use Rattle.rtc_plain_dtls.specs.Frames as said
use Rattle.rtc_plain_dtls.specs.Frames.{DtlsFrame, certificate_packet, dtls_frame_in, finish_packet, hello_packet}
use Rattle.rtc_plain_dtls.specs.Contents.{DtlsContents, asks_of, phase_is_finished}
use Rattle.rtc_plain_dtls.specs.Calls.{certificate_came, certificate_kept, close_packets, close_told, data_came, data_queued, dtls_close_came, dtls_shut_down, dtls_time_passed, finish_came, frame_came, hello_came, moment_taken, packet_came, role_set, role_taken, sent_again, start_came, went_on}
use Rattle.rtc_plain_dtls.specs.PlainLaws.{keeps_cert, leaves, sends}
use Rattle.rtc_plain_dtls.specs.PlainMeaning.{PollsDtls, plain_dtls}
use Rattle.rtc_peer_laws.specs.PeerActs.{first_role, role_of_act, roles_after}
use Rattle.rtc_peer_laws.proofs.HandshakeMarks.{role_in, role_takes, HasMarked, CameAt, QueuedBy, same_mark, one_two, one_three, two_one, two_three, other_kind, frame_mark, marked_packet}

module _ (l : List (List ℕ)) where
  -- what acts leave, where the packets that were given are among some
  pub record Steps (roles : List Bool) (p q : DtlsContents) : Type 0 where
    pub role : role_in q.phase ≡ roles_after (role_in p.phase) roles
    pub came : CameAt l p.phase → CameAt l q.phase
    pub hello : QueuedBy 1 true p → QueuedBy 1 true q
    pub cert : QueuedBy 2 false p → QueuedBy 2 false q

  steps_same : (p q : DtlsContents) → q.phase ≡ p.phase → ((x : List ℕ) → Member x q.packets → Member x p.packets) → Steps [] p q
  steps_same p q is fewer = record {
    role = ap role_in is;
    came = λ h. subst (λ (x : Phase). CameAt l x) (sym is) h;
    hello = λ h rest m. ap role_in is ∙ h rest (fewer (22 ∷ 1 ∷ rest) m);
    cert = λ h rest m. ap role_in is ∙ h rest (fewer (22 ∷ 2 ∷ rest) m);
  }

  steps_none : (p : DtlsContents) → Steps [] p p
  steps_none p = steps_same p p refl (λ x m. m)

  steps_went : (phase : Phase) (outputs : List Output) (new : List (List ℕ)) (p : DtlsContents) → role_in phase ≡ role_in p.phase
      → (CameAt l p.phase → CameAt l phase) → ((rest : List ℕ) → Member (22 ∷ 1 ∷ rest) new → role_in phase ≡ Some true)
      → ((rest : List ℕ) → Member (22 ∷ 2 ∷ rest) new → role_in phase ≡ Some false) → Steps [] p (went_on phase outputs new p)
  unfolding went_on
  steps_went phase outputs new p role came hello cert = record {
    role = role;
    came = came;
    hello = λ h rest m. elim (member-append (22 ∷ 1 ∷ rest) p.packets new m) [ inl k ↦ role ∙ h rest k | inr k ↦ hello rest k ];
    cert = λ h rest m. elim (member-append (22 ∷ 2 ∷ rest) p.packets new m) [ inl k ↦ role ∙ h rest k | inr k ↦ cert rest k ];
  }

  -- a hello goes out from the active side, a certificate from the passive one
  steps_hello : (phase : Phase) (outputs : List Output) (p : DtlsContents) → role_in phase ≡ role_in p.phase → role_in phase ≡ Some true
      → (CameAt l p.phase → CameAt l phase) → Steps [] p (went_on phase outputs (hello_packet p.cert ∷ []) p)
  steps_hello phase outputs p same active came =
      steps_went phase outputs (hello_packet p.cert ∷ []) p same came (λ rest m. active) (λ rest m. absurd (two_one (same_mark 2 1 rest p.cert m)))

  steps_cert : (phase : Phase) (outputs : List Output) (p : DtlsContents) → role_in phase ≡ role_in p.phase → role_in phase ≡ Some false
      → (CameAt l p.phase → CameAt l phase) → Steps [] p (went_on phase outputs (certificate_packet p.cert ∷ []) p)
  steps_cert phase outputs p same passive came =
      steps_went phase outputs (certificate_packet p.cert ∷ []) p same came (λ rest m. absurd (one_two (same_mark 1 2 rest p.cert m))) (λ rest m. passive)

  steps_finish : (phase : Phase) (outputs : List Output) (p : DtlsContents) → role_in phase ≡ role_in p.phase → (CameAt l p.phase → CameAt l phase)
      → Steps [] p (went_on phase outputs (finish_packet ∷ []) p)
  steps_finish phase outputs p same came =
      steps_went phase outputs (finish_packet ∷ []) p same came (λ rest m. absurd (one_three (same_mark 1 3 rest [] m)))
      (λ rest m. absurd (two_three (same_mark 2 3 rest [] m)))

  steps_told : (phase : Phase) (outputs : List Output) (p : DtlsContents) → role_in phase ≡ role_in p.phase → (CameAt l p.phase → CameAt l phase)
      → Steps [] p (went_on phase outputs [] p)
  steps_told phase outputs p same came = steps_went phase outputs [] p same came (λ rest m. absurd m) (λ rest m. absurd m)

  -- what was known of a phase
  at_phase : (p : DtlsContents) (phase next : Phase) → p.phase ≡ phase → (CameAt l phase → CameAt l next) → CameAt l p.phase → CameAt l next
  at_phase p phase next is f h = f (subst (λ (x : Phase). CameAt l x) is h)

  again_steps : (phase : Phase) (p : DtlsContents) → p.phase ≡ phase → Steps [] p (sent_again phase p)
  again_steps NoRole p is = steps_none p
  again_steps AwaitStart p is = steps_hello AwaitCert [] p (sym (ap role_in is)) refl (λ h. tt)
  again_steps AwaitCert p is = steps_hello AwaitCert [] p (sym (ap role_in is)) refl (λ h. tt)
  again_steps AwaitHello p is = steps_none p
  again_steps AwaitFinish p is = steps_cert AwaitFinish [] p (sym (ap role_in is)) refl (at_phase p AwaitFinish AwaitFinish is (λ h. h))
  again_steps FinishedActive p is = steps_none p
  again_steps FinishedPassive p is = steps_none p

  start_steps : (phase : Phase) (p : DtlsContents) → p.phase ≡ phase → Steps [] p (start_came phase p)
  start_steps NoRole p is = steps_none p
  start_steps AwaitStart p is = steps_hello AwaitCert [] p (sym (ap role_in is)) refl (λ h. tt)
  start_steps AwaitCert p is = steps_none p
  start_steps AwaitHello p is = steps_none p
  start_steps AwaitFinish p is = steps_none p
  start_steps FinishedActive p is = steps_none p
  start_steps FinishedPassive p is = steps_none p

  hello_steps : (phase : Phase) (bytes : List ℕ) (p : DtlsContents) → p.phase ≡ phase → HasMarked 1 l → Steps [] p (hello_came phase bytes p)
  hello_steps NoRole bytes p is here = steps_none p
  hello_steps AwaitStart bytes p is here = steps_none p
  hello_steps AwaitCert bytes p is here = steps_none p
  hello_steps AwaitHello bytes p is here = steps_cert AwaitFinish (PeerCert bytes ∷ []) p (sym (ap role_in is)) refl (λ h. here)
  hello_steps AwaitFinish bytes p is here = steps_cert AwaitFinish [] p (sym (ap role_in is)) refl (λ h. here)
  hello_steps FinishedActive bytes p is here = steps_none p
  hello_steps FinishedPassive bytes p is here = steps_none p

  certificate_steps : (phase : Phase) (bytes : List ℕ) (p : DtlsContents) → p.phase ≡ phase → HasMarked 2 l
      → Steps [] p (certificate_came phase bytes p)
  certificate_steps NoRole bytes p is here = steps_none p
  certificate_steps AwaitStart bytes p is here =
      steps_finish FinishedActive (PeerCert bytes ∷ Keying ∷ Connected ∷ []) p (sym (ap role_in is)) (λ h. here)
  certificate_steps AwaitCert bytes p is here =
      steps_finish FinishedActive (PeerCert bytes ∷ Keying ∷ Connected ∷ []) p (sym (ap role_in is)) (λ h. here)
  certificate_steps AwaitHello bytes p is here = steps_none p
  certificate_steps AwaitFinish bytes p is here = steps_none p
  certificate_steps FinishedActive bytes p is here = steps_finish FinishedActive [] p (sym (ap role_in is)) (λ h. here)
  certificate_steps FinishedPassive bytes p is here = steps_none p

  finish_steps : (phase : Phase) (p : DtlsContents) → p.phase ≡ phase → Steps [] p (finish_came phase p)
  finish_steps NoRole p is = steps_none p
  finish_steps AwaitStart p is = steps_none p
  finish_steps AwaitCert p is = steps_none p
  finish_steps AwaitHello p is = steps_none p
  finish_steps AwaitFinish p is =
      steps_told FinishedPassive (Keying ∷ Connected ∷ []) p (sym (ap role_in is)) (at_phase p AwaitFinish FinishedPassive is (λ h. h))
  finish_steps FinishedActive p is = steps_none p
  finish_steps FinishedPassive p is = steps_none p

  data_steps : (phase : Phase) (bytes : List ℕ) (p : DtlsContents) → p.phase ≡ phase → Steps [] p (data_came phase bytes p)
  data_steps NoRole bytes p is = steps_none p
  data_steps AwaitStart bytes p is = steps_none p
  data_steps AwaitCert bytes p is = steps_none p
  data_steps AwaitHello bytes p is = steps_none p
  data_steps AwaitFinish bytes p is =
      steps_told FinishedPassive (Keying ∷ Connected ∷ Data bytes ∷ []) p (sym (ap role_in is))
      (at_phase p AwaitFinish FinishedPassive is (λ h. h))
  data_steps FinishedActive bytes p is =
      steps_told FinishedActive (Data bytes ∷ []) p (sym (ap role_in is)) (at_phase p FinishedActive FinishedActive is (λ h. h))
  data_steps FinishedPassive bytes p is =
      steps_told FinishedPassive (Data bytes ∷ []) p (sym (ap role_in is)) (at_phase p FinishedPassive FinishedPassive is (λ h. h))

  close_steps : (told : Bool) (p : DtlsContents) → Steps [] p (dtls_close_came told p)
  unfolding close_told
  close_steps true p = steps_none p
  close_steps false p = steps_same p (close_told p) refl (λ x m. m)

  -- a packet of the handshake that was given is among them
  marked_among : (mark : ℕ) → (mark ≡ 0 → ⊥) → (packet : List ℕ) → frame_mark (dtls_frame_in packet) ≡ mark → Member packet l → HasMarked mark l
  marked_among mark some packet h m =
      let it = marked_packet mark some packet h in (it.0, subst (λ (x : List ℕ). Member x l) it.1 m)

  no_one : ◌≡◌ {A = ℕ} 1 0 → ⊥
  no_one h = absurd (omega (arith, h))

  no_two : ◌≡◌ {A = ℕ} 2 0 → ⊥
  no_two h = absurd (omega (arith, h))

  frame_steps : (packet : List ℕ) (frame : DtlsFrame) (p : DtlsContents) → dtls_frame_in packet ≡ frame → Member packet l
      → Steps [] p (frame_came frame p)
  frame_steps packet said.Start p is m = start_steps p.phase p refl
  frame_steps packet (said.Hello bytes) p is m = hello_steps p.phase bytes p refl (marked_among 1 no_one packet (ap frame_mark is) m)
  frame_steps packet (said.Certificate bytes) p is m =
      certificate_steps p.phase bytes p refl (marked_among 2 no_two packet (ap frame_mark is) m)
  frame_steps packet said.Finish p is m = finish_steps p.phase p refl
  frame_steps packet (said.Data bytes) p is m = data_steps p.phase bytes p refl
  frame_steps packet said.Close p is m = close_steps p.notified p
  frame_steps packet said.Unknown p is m = steps_none p

  -- polls leave the phase, and packets that stood queued
  polled_steps : (packets : List (List ℕ)) (outputs : List Output) (p q : DtlsContents) (drawn : DtlsDrawn) → p.packets ≡ packets
      → PollsDtls packets outputs p drawn q → Steps [] p q
  polled_steps (y ∷ packets) outputs p q drawn is h =
      steps_same p q (ap (λ (c : DtlsContents). c.phase) h.2)
      (λ x m. subst (λ (k : List (List ℕ)). Member x k) (sym is) (inr (subst (λ (c : DtlsContents). Member x c.packets) h.2 m)))
  polled_steps [] (y ∷ outputs) p q drawn is h =
      steps_same p q (ap (λ (c : DtlsContents). c.phase) h.2) (λ x m. subst (λ (c : DtlsContents). Member x c.packets) h.2 m)
  polled_steps [] [] p q drawn is h =
      steps_same p q (ap (λ (c : DtlsContents). c.phase) h.1) (λ x m. subst (λ (c : DtlsContents). Member x c.packets) h.1 m)

  time_steps : (now : ℕ) (p : DtlsContents) → Steps [] p (dtls_time_passed now p)
  unfolding moment_taken
  time_steps now p = by (nat_le (asks_of p) now)
    where
      moment : (x : DtlsContents) → Steps [] p x → Steps [] p (moment_taken now x)
      moment x h = record { role = h.role; came = h.came; hello = h.hello; cert = h.cert }

      by : (b : Bool) → Steps [] p (moment_taken now (if b then sent_again p.phase p else p))
      by true = moment (sent_again p.phase p) (again_steps p.phase p refl)
      by false = moment p (steps_none p)

  shut_steps : (p : DtlsContents) → Steps [] p (dtls_shut_down p)
  unfolding dtls_shut_down
  shut_steps p = record {
    role = refl;
    came = λ h. h;
    hello = λ h rest m. elim (member-append (22 ∷ 1 ∷ rest) p.packets (close_packets p.phase) m) [ inl k ↦ h rest k | inr k ↦ absurd (none p.phase 1 rest k) ];
    cert = λ h rest m. elim (member-append (22 ∷ 2 ∷ rest) p.packets (close_packets p.phase) m) [ inl k ↦ h rest k | inr k ↦ absurd (none p.phase 2 rest k) ];
  }
    where
      apart : ◌≡◌ {A = ℕ} 22 21 → ⊥
      apart h = absurd (omega (arith, h))

      none : (phase : Phase) (mark : ℕ) (rest : List ℕ) → Member (22 ∷ mark ∷ rest) (close_packets phase) → ⊥
      none NoRole mark rest m = m
      none AwaitStart mark rest m = other_kind 21 mark rest (1 ∷ []) apart m
      none AwaitCert mark rest m = other_kind 21 mark rest (1 ∷ []) apart m
      none AwaitHello mark rest m = other_kind 21 mark rest (1 ∷ []) apart m
      none AwaitFinish mark rest m = other_kind 21 mark rest (1 ∷ []) apart m
      none FinishedActive mark rest m = other_kind 21 mark rest (1 ∷ []) apart m
      none FinishedPassive mark rest m = other_kind 21 mark rest (1 ∷ []) apart m

  sent_steps : (bytes : List ℕ) (p : DtlsContents) → Steps [] p (data_queued bytes p)
  sent_steps bytes p =
      steps_went p.phase [] ((23 ∷ bytes) ∷ []) p refl (λ h. h) (λ rest m. absurd (other_kind 23 1 rest bytes apart m))
      (λ rest m. absurd (other_kind 23 2 rest bytes apart m))
    where
      apart : ◌≡◌ {A = ℕ} 22 23 → ⊥
      apart h = absurd (omega (arith, h))

  cert_steps : (bytes : List ℕ) (p : DtlsContents) → Steps [] p (certificate_kept bytes p)
  unfolding certificate_kept
  cert_steps bytes p = steps_same p (record p { cert = bytes }) refl (λ x m. m)

  role_steps : (active : Bool) (p : DtlsContents) → Steps (active ∷ []) p (role_set active p)
  unfolding role_set
  role_steps active p = record {
    role = role_takes active p.phase;
    came = λ h. by active p.phase h;
    hello = λ h rest m. role_takes active p.phase ∙ ap (λ (r : Option Bool). first_role r active) (h rest m);
    cert = λ h rest m. role_takes active p.phase ∙ ap (λ (r : Option Bool). first_role r active) (h rest m);
  }
    where
      by : (a : Bool) (phase : Phase) → CameAt l phase → CameAt l (role_taken a phase)
      by true NoRole h = tt
      by false NoRole h = tt
      by true AwaitStart h = h
      by false AwaitStart h = h
      by true AwaitCert h = h
      by false AwaitCert h = h
      by true AwaitHello h = h
      by false AwaitHello h = h
      by true AwaitFinish h = h
      by false AwaitFinish h = h
      by true FinishedActive h = h
      by false FinishedActive h = h
      by true FinishedPassive h = h
      by false FinishedPassive h = h

  call_steps : (call : DtlsCall) (p q : DtlsContents) → DtlsActed plain_dtls p (Stirred call) q → Steps (role_of_act (Stirred call)) p q
  call_steps (CertificateSet bytes r) p q h =
      keeps_cert (λ (x : DtlsContents). Steps [] p x) p (certificate_kept bytes p) q r (steps_none p) (cert_steps bytes p) h
  call_steps (Activated active) p q h = subst (λ (x : DtlsContents). Steps (active ∷ []) p x) (sym h) (role_steps active p)
  call_steps (VersionSet v) p q h = subst (λ (x : DtlsContents). Steps [] p x) (sym h) (steps_none p)
  call_steps (SendRefused bytes cause) p q h =
      sends (λ (x : DtlsContents). Steps [] p x) (phase_is_finished p.phase) p (data_queued bytes p) q (Err cause) (steps_none p) (sent_steps bytes p) h
  call_steps (TimedAt now r) p q h =
      leaves (λ (x : DtlsContents). Steps [] p x) p (dtls_time_passed now p) q r (steps_none p) (time_steps now p) h
  call_steps (Closed r) p q h = leaves (λ (x : DtlsContents). Steps [] p x) p (dtls_shut_down p) q r (steps_none p) (shut_steps p) h
  call_steps (Showed drawn) p q h = polled_steps p.packets p.outputs p q drawn refl h.1

  pub act_steps : (act : DtlsAct) (p q : DtlsContents) → DtlsActed plain_dtls p act q → ((x : List ℕ) → Member x (dtls_given (act ∷ [])) → Member x l)
      → Steps (role_of_act act) p q
  act_steps (Given packet) p q h sub =
      leaves (λ (x : DtlsContents). Steps [] p x) p (packet_came packet p) q h.0 (steps_none p)
      (frame_steps packet (dtls_frame_in packet) p refl (sub packet (inl refl))) h.1
  act_steps (Taken packet) p q h sub = polled_steps p.packets p.outputs p q (DrewPacket packet) refl h
  act_steps (Sent bytes) p q h sub =
      sends (λ (x : DtlsContents). Steps [] p x) (phase_is_finished p.phase) p (data_queued bytes p) q (Ok tt) (steps_none p) (sent_steps bytes p) h
  act_steps (Got bytes) p q h sub = polled_steps p.packets p.outputs p q (DrewData bytes) refl h
  act_steps (Stirred call) p q h sub = call_steps call p q h
