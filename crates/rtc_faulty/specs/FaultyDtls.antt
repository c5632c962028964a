-- A DTLS part that fails at listed calls.
use Rattle.std.specs.Prelude.{◌+◌, Bool, true, false, Result, Err}
use Rattle.rtc_parts.specs.declared.dtls_error.DtlsError.{DtlsError}
use Rattle.rtc_parts.specs.declared.dtls_error.DtlsError.TheVariants.{WouldBlock, Fault}
use Rattle.rtc_parts.specs.DtlsMeaning.{DtlsMeaning}
use Rattle.rtc_faulty.specs.declared.faulty.Faulty.{Faulty}
use Rattle.rtc_faulty.specs.Numbering.{is_failing}
use Rattle.rtc_faulty.specs.FaultyCalls.{IsFreshOver, Reaches, CanFail}

-- a result uses a number: each but that application data has to wait
abbrev pub dtls_answer_counts : {A : Type 0} → Result A DtlsError → Bool
dtls_answer_counts (Err WouldBlock) = false
dtls_answer_counts _ = true

abbrev pub faulty_dtls : {D : Type 0} → DtlsMeaning D → DtlsMeaning (Faulty D)
faulty_dtls m = record {
  fresh = λ p. IsFreshOver m.fresh p;
  certificate_set = λ p cert r q. Reaches (λ i j. m.certificate_set i cert r j) p q;
  activated = λ p active q. Reaches (λ i j. m.activated i active j) p q;
  version_set = λ p version q. Reaches (λ i j. m.version_set i version j) p q;
  given = λ p packet r q. CanFail (is_failing p.numbers) Fault (λ _. true) (λ i a j. m.given i packet a j) p r q;
  sent = λ p bytes r q. CanFail (is_failing p.numbers) Fault dtls_answer_counts (λ i a j. m.sent i bytes a j) p r q;
  timed = λ p now r q. CanFail (is_failing p.numbers) Fault (λ _. true) (λ i a j. m.timed i now a j) p r q;
  shut = λ p r q. CanFail (is_failing p.numbers) Fault (λ _. true) (λ i a j. m.shut i a j) p r q;
  polled = λ p drawn q. Reaches (λ i j. m.polled i drawn j) p q;
  closed = λ p. m.closed p.inner;
  finished = λ p. m.finished p.inner;
  version = λ p. m.version p.inner;
  held = λ p. m.held p.inner;
  units = λ p. m.units p.inner;
  packets = λ p. m.packets p.inner;
  asks = λ p. m.asks p.inner;
  faults = λ p. m.faults p.inner + p.numbers.faults;
}
