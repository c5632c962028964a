-- What a DTLS part is: what each of its calls does, and what it holds.
use Rattle.std.specs.Prelude.{ℕ, Bool, List, Option, Result}
use Rattle.std.specs.declared.alloc.AllocError.{AllocError}
use Rattle.rtc_parts.specs.declared.dtls_error.DtlsError.{DtlsError}
use Rattle.rtc_parts.specs.declared.dtls_version.DtlsVersion.{DtlsVersion}
use Rattle.rtc_parts.specs.DtlsDrawn.{DtlsDrawn}

pub record DtlsMeaning (D : Type 0) : Type 1 where
  -- a part that is as it was made
  pub fresh : D → Type 0
  -- what each call does: the part before, the arguments, the result, the part after
  pub certificate_set : D → (cert : List ℕ) → Result (Unit {0}) AllocError → D → Type 0
  pub activated : D → (active : Bool) → D → Type 0
  pub version_set : D → DtlsVersion → D → Type 0
  pub given : D → (packet : List ℕ) → Result (Unit {0}) DtlsError → D → Type 0
  pub sent : D → (bytes : List ℕ) → Result (Unit {0}) DtlsError → D → Type 0
  pub timed : D → (now : ℕ) → Result (Unit {0}) DtlsError → D → Type 0
  pub shut : D → Result (Unit {0}) DtlsError → D → Type 0
  pub polled : D → DtlsDrawn → D → Type 0
  -- what the readings return
  pub closed : D → Bool
  pub finished : D → Bool
  pub version : D → Option DtlsVersion
  -- how many outputs polling still gives, the units of input among them, and how many of them are packets
  pub held : D → ℕ
  pub units : D → ℕ
  pub packets : D → ℕ
  -- the moment that the part asks for once it is drained; 2^64 - 1 is that of what is not to happen
  pub asks : D → ℕ
  -- how often the device failed
  pub faults : D → ℕ
