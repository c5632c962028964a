-- Which certificate of the other side is taken (RFC 8122, section 6.2).
use Rattle.std.specs.Prelude.{if◌then◌else◌, ℕ, ◌≡◌, ◌||◌, Bool, true, false, List, Option, Some, None, codes}
use Rattle.std.specs.Str.{bytes_eq}
use Rattle.rtc_sdp_values.specs.declared.fingerprint.Fingerprint.{Fingerprint}
use Rattle.rtc_sdp_values.specs.Fingerprint.{certificate_fingerprint}
use Rattle.rtc_peer_rows.specs.declared.why.Why.{Why}
use Rattle.rtc_peer_rows.specs.declared.why.Why.TheVariants.{NoMatch, UnknownHash, NoneAnnounced}

-- the names of the hash functions by which certificates are checked
abbrev pub is_checked_hash : List ℕ → Bool
is_checked_hash name = bytes_eq name (codes "sha-256") || bytes_eq name (codes "sha-1")

-- the name of the hash function for a certificate: the announced one, if certificates are checked by it
abbrev pub hash_name : Option Fingerprint → List ℕ
hash_name None = codes "sha-256"
hash_name (Some announced) = if is_checked_hash announced.hash_func then announced.hash_func else codes "sha-256"

-- a certificate has a fingerprint, and another was announced, if any was
abbrev pub Hashes : Option Fingerprint → List ℕ → Fingerprint → Type 0
Hashes announced cert got = certificate_fingerprint (hash_name announced) cert ≡ Some got

-- why a certificate with a fingerprint is refused by the announced one
abbrev pub cert_mismatch : Fingerprint → Fingerprint → Option Why
cert_mismatch announced got =
    if is_checked_hash announced.hash_func
    then (if bytes_eq announced.bytes got.bytes then None else Some (NoMatch announced got))
    else Some (UnknownHash announced.hash_func)

-- why it is refused: nothing was announced, or it is to be verified and does not match
abbrev pub cert_refusal : Option Fingerprint → (verifies : Bool) → Fingerprint → Option Why
cert_refusal None verifies got = Some NoneAnnounced
cert_refusal (Some announced) true got = cert_mismatch announced got
cert_refusal (Some announced) false got = None
