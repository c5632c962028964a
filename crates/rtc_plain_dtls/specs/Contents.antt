-- What a plain part holds, and what it returns of itself.
use Rattle.std.specs.Prelude.{ℕ, ◌+◌, ◌-◌, ◌^◌, nat_le, if◌then◌else◌, Bool, true, false, List, [], Option, Some, None}
use Rattle.rtc_parts.specs.declared.dtls_version.DtlsVersion.{DtlsVersion}
use Rattle.rtc_parts.specs.declared.dtls_version.DtlsVersion.TheVariants.{Dtls12}
use Rattle.rtc_plain_dtls.specs.declared.output.Output.{Output}
use Rattle.rtc_plain_dtls.specs.declared.phase.Phase.{Phase}
use Rattle.rtc_plain_dtls.specs.declared.phase.Phase.TheVariants.{
  NoRole,
  AwaitStart,
  AwaitCert,
  AwaitHello,
  AwaitFinish,
  FinishedActive,
  FinishedPassive,
}

pub record DtlsContents : Type 0 where
  pub cert : List ℕ
  pub phase : Phase
  -- the greatest moment that was given, 0 before any
  pub greatest : ℕ
  pub closed : Bool
  -- whether the other side's close was reported
  pub notified : Bool
  pub packets : List (List ℕ)
  pub outputs : List Output

-- a part as it is made
abbrev pub fresh_dtls : DtlsContents
fresh_dtls = record { cert = []; phase = NoRole; greatest = 0; closed = false; notified = false; packets = []; outputs = [] }

-- whether the handshake is finished
abbrev pub phase_is_finished : Phase → Bool
phase_is_finished NoRole = false
phase_is_finished AwaitStart = false
phase_is_finished AwaitCert = false
phase_is_finished AwaitHello = false
phase_is_finished AwaitFinish = false
phase_is_finished FinishedActive = true
phase_is_finished FinishedPassive = true

abbrev pub phase_version : Phase → Option DtlsVersion
phase_version phase = if phase_is_finished phase then Some Dtls12 else None

-- whether there is something to send again, or a hello to send
abbrev pub resends : Phase → Bool
resends NoRole = false
resends AwaitStart = true
resends AwaitCert = true
resends AwaitHello = false
resends AwaitFinish = true
resends FinishedActive = false
resends FinishedPassive = false

-- one second after a moment, if there is such a moment
abbrev pub second_behind : ℕ → ℕ
second_behind moment = if nat_le (moment + 1_000_000_000) (2 ^ 64 - 2) then moment + 1_000_000_000 else 2 ^ 64 - 1

-- the moment that the part asks for once it is drained
abbrev pub asks_at : Bool → ℕ → ℕ
asks_at true greatest = second_behind greatest
asks_at false greatest = 2 ^ 64 - 1

abbrev pub asks_of : DtlsContents → ℕ
asks_of p = asks_at (resends p.phase) p.greatest
