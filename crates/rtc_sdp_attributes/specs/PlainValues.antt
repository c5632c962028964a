-- The values of attributes that are written and read back.
use Rattle.std.specs.Prelude.{◌≡◌, ◌≢◌, ℕ, ◌==◌, ◌<◌, ◌≤◌, Bool, true, false, List, [], ◌∷◌, length, if◌then◌else◌}
use Rattle.std.specs.List.{AllByRecursion}
use Rattle.std.specs.Str.{bytes_eq}
use Rattle.rtc_wire_text.specs.Cuts.{Lacks}
use Rattle.rtc_wire_text.specs.LetterCase.{is_lower}
use Rattle.rtc_wire_text.specs.Once.{IsApart}
use Rattle.rtc_wire_text.specs.Tokens.{is_token, is_short_token}
use Rattle.rtc_wire.specs.declared.protocol.Protocol.{Protocol}
use Rattle.rtc_wire.specs.declared.protocol.Protocol.TheVariants.{Udp, Tcp, SslTcp, Tls}
use Rattle.rtc_sdp_values.specs.declared.candidate.Candidate.{Candidate}
use Rattle.rtc_sdp_values.specs.declared.fingerprint.Fingerprint.{Fingerprint}
use Rattle.rtc_sdp_values.specs.declared.msid.Msid.{Msid}
use Rattle.rtc_sdp_attributes.specs.AttributeForms.{is_kept}

pub record IsPlainFingerprint (fingerprint : Fingerprint) : Type 0 where
  pub token : is_token fingerprint.hash_func ≡ true
  pub small : is_lower fingerprint.hash_func ≡ true
  pub some : fingerprint.bytes ≢ []
  pub bytes : AllByRecursion (λ byte. byte < 256) fingerprint.bytes

-- a protocol that a candidate line can name
abbrev pub IsNamed : Protocol → Type 0
IsNamed Udp = Unit {0}
IsNamed Tcp = Unit {0}
IsNamed SslTcp = ⊥
IsNamed Tls = ⊥

pub record IsPlainCandidate (candidate : Candidate) : Type 0 where
  pub foundation : is_token candidate.foundation ≡ true
  pub component : candidate.component ≤ 65535
  pub proto : IsNamed candidate.proto
  pub priority : candidate.priority ≤ 4294967295
  pub four : length candidate.addr.ip ≡ 4
  pub bytes : AllByRecursion (λ byte. byte ≤ 255) candidate.addr.ip
  pub port : candidate.addr.port ≤ 65535

pub record IsPlainRtpmap (pt : ℕ) (codec : List ℕ) (clock channels : ℕ) : Type 0 where
  pub pt_small : pt ≤ 127
  pub token : is_token codec ≡ true
  pub clock_small : clock ≤ 4294967295
  pub channels_small : channels ≤ 255

pub record IsPlainMsid (msid : Msid) : Type 0 where
  pub stream : is_token msid.stream_id ≡ true
  pub track : is_token msid.track_id ≡ true

pub record IsPlainPair (pair : List ℕ × List ℕ) : Type 0 where
  pub kept : is_kept pair ≡ true
  pub key_semicolon : Lacks 59 pair.0
  pub key_equals : Lacks 61 pair.0
  pub value_semicolon : Lacks 59 pair.1
  pub value_equals : Lacks 61 pair.1

pub record IsPlainRid (rid : List ℕ) (attributes : List (List ℕ × List ℕ)) : Type 0 where
  pub token : is_short_token rid ≡ true
  pub pairs : AllByRecursion IsPlainPair attributes

-- a rid that is in a list as itself
abbrev pub is_listed : List ℕ → Bool
is_listed [] = false
is_listed (b ∷ bs) = if b == 126 then false else is_short_token (b ∷ bs)

pub record IsPlainList (rids : List (List ℕ)) : Type 0 where
  pub listed : AllByRecursion (λ rid. is_listed rid ≡ true) rids
  pub apart : IsApart bytes_eq rids
