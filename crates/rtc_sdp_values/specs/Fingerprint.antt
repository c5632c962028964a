-- Fingerprints of certificates (RFC 8122, section 5).
use Rattle.std.specs.Prelude.{ℕ, List, Option, Some, None, if◌then◌else◌, codes}
use Rattle.std.specs.Str.{bytes_eq}
use Rattle.sha1.specs.Sha1.{sha1}
use Rattle.sha2.specs.Sha256.{sha256}
use Rattle.rtc_sdp_values.specs.declared.fingerprint.Fingerprint.{Fingerprint}

-- the fingerprint of a certificate by the hash function of a name
abbrev pub certificate_fingerprint : List ℕ → List ℕ → Option Fingerprint
certificate_fingerprint name certificate =
    if bytes_eq name (codes "sha-256") then Some (record { hash_func = name; bytes = sha256 certificate })
    else if bytes_eq name (codes "sha-1") then Some (record { hash_func = name; bytes = sha1 certificate })
    else None
