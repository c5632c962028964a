-- The plain part keeps the laws of every DTLS part.
use Rattle.std.proofs.Common.{
  ℕ,
  ◌≡◌,
  ◌≤◌,
  ◌+◌,
  ◌-◌,
  ◌^◌,
  Bool,
  true,
  false,
  cond,
  inl,
  inr,
  List,
  ◌∷◌,
  length,
  Result,
  Ok,
  Err,
  refl,
  sym,
  ap,
  subst,
  arith,
  append-nil,
  length-append,
  [],
}
use Rattle.std.specs.Prelude.{nat_le}
use Rattle.std.proofs.lemmas.Bool.Decides.{leb_tells}
use Rattle.rtc_parts.specs.declared.dtls_error.DtlsError.{DtlsError}
use Rattle.rtc_parts.specs.declared.dtls_error.DtlsError.TheVariants.{WouldBlock, Fault, Alloc}
use Rattle.rtc_parts.specs.DtlsDrawn.{DrewPacket, DrewData}
use Rattle.rtc_parts.specs.DtlsActs.{
  DtlsAct,
  DtlsCall,
  Given,
  Taken,
  Sent,
  Got,
  Stirred,
  CertificateSet,
  Activated,
  VersionSet,
  SendRefused,
  TimedAt,
  Closed,
  Showed,
  DtlsActed,
  DtlsMoved,
}
use Rattle.rtc_parts.specs.DtlsLaws.{DtlsLaws, DtlsAnswered, SendAnswered, IsLater}
use Rattle.rtc_plain_dtls.specs.declared.phase.Phase.{Phase}
use Rattle.rtc_plain_dtls.specs.declared.phase.Phase.TheVariants.{
  NoRole,
  AwaitStart,
  AwaitCert,
  AwaitHello,
  AwaitFinish,
  FinishedActive,
  FinishedPassive,
}
use Rattle.rtc_plain_dtls.specs.Held.{outputs_units}
use Rattle.rtc_plain_dtls.specs.Frames.{dtls_frame_in}
use Rattle.rtc_plain_dtls.specs.Contents.{DtlsContents, phase_is_finished, resends, second_behind, asks_at, asks_of}
use Rattle.rtc_plain_dtls.specs.Calls.{
  went_on,
  certificate_kept,
  role_set,
  packet_came,
  data_queued,
  sent_again,
  moment_taken,
  dtls_time_passed,
  close_packets,
  dtls_shut_down,
}
use Rattle.rtc_plain_dtls.specs.TakesLemmas.{frame_takes, Repeats, again_repeats}
use Rattle.rtc_plain_dtls.specs.PollLemmas.{
  timeout_only,
  empties,
  no_units,
  polled_falls,
  polled_short,
  polled_input,
  polled_output,
  polled_keeps,
  same_asks,
}
use Rattle.rtc_plain_dtls.specs.PlainMeaning.{plain_dtls, KeepsCert, LeavesDtls, SendsDtls}

-- results
leaves_answered : (p done q : DtlsContents) (r : Result (Unit {0}) DtlsError) → LeavesDtls p done r q → DtlsAnswered 0 0 r
leaves_answered p done q (Ok x) h = omega arith
leaves_answered p done q (Err WouldBlock) h = absurd h
leaves_answered p done q (Err Fault) h = absurd h
leaves_answered p done q (Err Alloc) h = omega arith

sends_answered : (b : Bool) (p done q : DtlsContents) (r : Result (Unit {0}) DtlsError) → SendsDtls b p done r q → SendAnswered b 0 0 r
sends_answered true p done q (Ok x) h = omega arith
sends_answered true p done q (Err WouldBlock) h = absurd h
sends_answered true p done q (Err Fault) h = absurd h
sends_answered true p done q (Err Alloc) h = omega arith
sends_answered false p done q r h = subst (SendAnswered false 0 0) (sym h.0) refl

pub blocks : (b : Bool) (p done q : DtlsContents) → SendsDtls b p done (Err WouldBlock) q → (b ≡ false) × (q ≡ p)
blocks true p done q h = absurd h
blocks false p done q h = (refl, h.1)

blocks_again : (b : Bool) (p done q : DtlsContents) (r : Result (Unit {0}) DtlsError) → b ≡ false → SendsDtls b p done r q → r
    ≡ Err WouldBlock
blocks_again true p done q r e h = absurd (let k : true ≡ false = e in cc)
blocks_again false p done q r e h = h.0

-- what holds of the contents before and of those that a call leaves holds after it
pub leaves : (P : DtlsContents → Type 0) (p done q : DtlsContents) (r : Result (Unit {0}) DtlsError) → P p → P done
    → LeavesDtls p done r q → P q
leaves P p done q (Ok x) a b h = subst P (sym h) b
leaves P p done q (Err WouldBlock) a b h = absurd h
leaves P p done q (Err Fault) a b h = absurd h
leaves P p done q (Err Alloc) a b h = subst P (sym h) a

pub sends : (P : DtlsContents → Type 0) (b : Bool) (p done q : DtlsContents) (r : Result (Unit {0}) DtlsError) → P p → P done
    → SendsDtls b p done r q → P q
sends P true p done q r a d h = leaves P p done q r a d h
sends P false p done q r a d h = subst P (sym h.1) a

pub keeps_cert : (P : DtlsContents → Type 0) (p done q : DtlsContents) (r : _) → P p → P done → KeepsCert p done r q → P q
keeps_cert P p done q (Ok x) a b h = subst P (sym h) b
keeps_cert P p done q (Err x) a b h = subst P (sym h) a

-- application data and a close keep the moments, and add a packet at most
pub record Adds (p q : DtlsContents) : Type 0 where
  pub phase : q.phase ≡ p.phase
  pub greatest : q.greatest ≡ p.greatest
  pub outputs : q.outputs ≡ p.outputs
  pub output : length q.packets ≤ length p.packets + 1

adds_none : (p : DtlsContents) → Adds p p
adds_none p = record { phase = refl; greatest = refl; outputs = refl; output = omega arith }

pub adds_data : (bytes : List ℕ) (p : DtlsContents) → Adds p (data_queued bytes p)
unfolding went_on
adds_data bytes p = record {
  phase = refl;
  greatest = refl;
  outputs = append-nil p.outputs;
  output = omega (arith, length-append p.packets ((23 ∷ bytes) ∷ []));
}

few_closes : (phase : Phase) → length (close_packets phase) ≤ 1
few_closes NoRole = omega arith
few_closes AwaitStart = omega arith
few_closes AwaitCert = omega arith
few_closes AwaitHello = omega arith
few_closes AwaitFinish = omega arith
few_closes FinishedActive = omega arith
few_closes FinishedPassive = omega arith

pub adds_close : (p : DtlsContents) → Adds p (dtls_shut_down p)
unfolding dtls_shut_down
adds_close p = record {
  phase = refl;
  greatest = refl;
  outputs = refl;
  output = omega (arith, length-append p.packets (close_packets p.phase), few_closes p.phase);
}

-- what the calls for application data and a close leave
sent_adds : (p q : DtlsContents) (bytes : List ℕ) (r : Result (Unit {0}) DtlsError)
    → SendsDtls (phase_is_finished p.phase) p (data_queued bytes p) r q → Adds p q
sent_adds p q bytes r h =
    sends (Adds p) (phase_is_finished p.phase) p (data_queued bytes p) q r (adds_none p) (adds_data bytes p) h

shut_adds : (p q : DtlsContents) (r : Result (Unit {0}) DtlsError) → LeavesDtls p (dtls_shut_down p) r q → Adds p q
shut_adds p q r h = leaves (Adds p) p (dtls_shut_down p) q r (adds_none p) (adds_close p) h

-- time adds a packet at most, and its moment is kept
pub record PassesTime (now : ℕ) (p q : DtlsContents) : Type 0 where
  pub outputs : q.outputs ≡ p.outputs
  pub output : length q.packets ≤ length p.packets + 1
  pub greatest : p.greatest ≤ q.greatest
  pub moment : now ≤ q.greatest

passes_taken : (now : ℕ) (p r : DtlsContents) → Repeats p r → PassesTime now p (moment_taken now r)
unfolding moment_taken
passes_taken now p r k = record { outputs = k.nothing; output = k.few; greatest = omega (arith, k.takes.greatest); moment = omega arith }

passes : (b : Bool) (now : ℕ) (p : DtlsContents) → PassesTime now p (moment_taken now (cond b (sent_again p.phase p) p))
passes true now p = passes_taken now p (sent_again p.phase p) (again_repeats p.phase p)
passes false now p = passes_taken now p p (again_repeats NoRole p)

pub timed_passes : (now : ℕ) (p : DtlsContents) → PassesTime now p (dtls_time_passed now p)
timed_passes now p = passes (nat_le (asks_of p) now) now p

-- the greatest moment never falls
kept-greatest : (cert : List ℕ) (p : DtlsContents) → (certificate_kept cert p).greatest ≡ p.greatest
unfolding certificate_kept
kept-greatest cert p = refl

role-greatest : (active : Bool) (p : DtlsContents) → (role_set active p).greatest ≡ p.greatest
unfolding role_set
role-greatest active p = refl

abbrev Later : DtlsContents → DtlsContents → Type 0
Later p q = p.greatest ≤ q.greatest

later_call : (p q : DtlsContents) (call : DtlsCall) → DtlsActed plain_dtls p (Stirred call) q → Later p q
later_call p q (CertificateSet cert r) h =
    keeps_cert (Later p) p (certificate_kept cert p) q r (omega arith) (omega (arith, kept-greatest cert p)) h
later_call p q (Activated active) h = omega (arith, ap (λ (c : DtlsContents). c.greatest) h, role-greatest active p)
later_call p q (VersionSet v) h = omega (arith, ap (λ (c : DtlsContents). c.greatest) h)
later_call p q (SendRefused bytes e) h =
    sends (Later p) (phase_is_finished p.phase) p (data_queued bytes p) q (Err e)
    (omega arith) (omega (arith, (adds_data bytes p).greatest)) h
later_call p q (TimedAt now r) h = leaves (Later p) p (dtls_time_passed now p) q r (omega arith) (timed_passes now p).greatest h
later_call p q (Closed r) h = leaves (Later p) p (dtls_shut_down p) q r (omega arith) (omega (arith, (adds_close p).greatest)) h
later_call p q (Showed drawn) h = omega (arith, (polled_keeps p.packets p.outputs p q drawn h.1).1)

later_act : (p q : DtlsContents) (act : DtlsAct) → DtlsActed plain_dtls p act q → Later p q
later_act p q (Given packet) h =
    leaves (Later p) p (packet_came packet p) q h.0
    (omega arith) (omega (arith, (frame_takes (dtls_frame_in packet) p).greatest)) h.1
later_act p q (Taken packet) h = omega (arith, (polled_keeps p.packets p.outputs p q (DrewPacket packet) h).1)
later_act p q (Sent bytes) h =
    sends (Later p) (phase_is_finished p.phase) p (data_queued bytes p) q (Ok tt)
    (omega arith) (omega (arith, (adds_data bytes p).greatest)) h
later_act p q (Got bytes) h = omega (arith, (polled_keeps p.packets p.outputs p q (DrewData bytes) h).1)
later_act p q (Stirred call) h = later_call p q call h

later_moved : (p q : DtlsContents) (acts : List DtlsAct) → DtlsMoved plain_dtls p acts q → Later p q
later_moved p q [] h = omega (arith, ap (λ (c : DtlsContents). c.greatest) h)
later_moved p q (act ∷ acts) h = omega (arith, later_act p h.0 act h.1.0, later_moved h.0 q acts h.1.1)

second_later : (now greatest : ℕ) → now ≤ greatest → IsLater now (second_behind greatest)
second_later now greatest l = elim (leb_tells (greatest + 1_000_000_000) (2 ^ 64 - 2)) [
  | inl h ↦ inl (rw h.0 (omega arith))
  | inr h ↦ inr (rw h.0 refl)
]

asks_behind : (b : Bool) (now greatest : ℕ) → now ≤ greatest → IsLater now (asks_at b greatest)
asks_behind true now greatest l = second_later now greatest l
asks_behind false now greatest l = inr refl

pub plain_dtls_laws : DtlsLaws plain_dtls
plain_dtls_laws = record {
  fresh_open = λ p f. ap (λ (c : DtlsContents). c.closed) f;
  fresh_unfinished = λ p f. ap (λ (c : DtlsContents). phase_is_finished c.phase) f;
  given_answer = λ p q packet r h. leaves_answered p (packet_came packet p) q r h;
  timed_answer = λ p q now r h. leaves_answered p (dtls_time_passed now p) q r h;
  shut_answer = λ p q r h. leaves_answered p (dtls_shut_down p) q r h;
  sent_answer = λ p q bytes r h. sends_answered (phase_is_finished p.phase) p (data_queued bytes p) q r h;
  blocked = λ p q bytes h. (blocks (phase_is_finished p.phase) p (data_queued bytes p) q h).1;
  blocked_again = λ p q o bytes others r h k. inl (blocks_again (phase_is_finished p.phase) p (data_queued others p) o r
      (blocks (phase_is_finished p.phase) p (data_queued bytes p) q h).0 k);
  faults_rise = λ p q act h. omega arith;
  timeout_none = λ p q moment h. (timeout_only p.packets p.outputs p q moment h).1;
  timeout_asks = λ p q moment h. (timeout_only p.packets p.outputs p q moment h).2;
  silent = λ p q moment h. (timeout_only p.packets p.outputs p q moment h).0;
  quiet = λ p e. empties p.packets p.outputs p e;
  quiet_input = λ p e. no_units p.packets p.outputs e;
  drawn_falls = λ p q drawn g h. polled_falls p.packets p.outputs p q drawn refl refl g h;
  drawn_short = λ p q drawn h. polled_short p.packets p.outputs p q drawn h;
  drawn_input = λ p q drawn h. polled_input p.packets p.outputs p q drawn refl h;
  drawn_output = λ p q drawn h. polled_output p.packets p.outputs p q drawn refl h;
  sent_input = λ p q bytes r h. omega (arith, ap outputs_units (sent_adds p q bytes r h).outputs);
  sent_output = λ p q bytes r h. (sent_adds p q bytes r h).output;
  timed_input = λ p q now r h. omega (
    arith,
    ap outputs_units (leaves (λ c. c.outputs
        ≡ p.outputs) p (dtls_time_passed now p) q r refl (timed_passes now p).outputs h),
  );
  timed_output = λ p q now r h.
      leaves (λ c. length c.packets ≤ length p.packets + 32) p (dtls_time_passed now p) q r
      (omega arith) (omega (arith, (timed_passes now p).output)) h;
  shut_input = λ p q r h. omega (arith, ap outputs_units (shut_adds p q r h).outputs);
  shut_output = λ p q r h. omega (arith, (shut_adds p q r h).output);
  asks_later = λ p q r now acts h k. asks_behind (resends r.phase) now r.greatest
      (omega (arith, ap (λ (c : DtlsContents). c.greatest) h, (timed_passes now p).moment, later_moved q r acts k));
  drawn_asks = λ p q drawn h. same_asks p q (polled_keeps p.packets p.outputs p q drawn h);
  sent_asks = λ p q bytes r h. let a = sent_adds p q bytes r h in same_asks p q (a.phase, a.greatest);
  shut_asks = λ p q r h. let a = shut_adds p q r h in same_asks p q (a.phase, a.greatest);
}
