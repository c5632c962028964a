-- Small cases of the definitions, computed.
use Rattle.std.proofs.Common.{◌≡◌, ◌-◌, ◌^◌, ℕ, Bool, true, false, List, [], ◌∷◌, Some, None, codes, refl}
use Rattle.rtc_sdp_values.specs.declared.fingerprint.Fingerprint.{Fingerprint}
use Rattle.rtc_peer_rows.specs.declared.why.Why.TheVariants.{NoMatch, UnknownHash, NoneAnnounced}
use Rattle.rtc_peer_core.specs.declared.rtc_error.RtcError.TheVariants.{RemoteSdp}
use Rattle.rtc_peer_rows.specs.WhyText.{why_text}
use Rattle.rtc_peer_core.specs.RtcErrorText.{rtc_error_text}
use Rattle.rtc_peer_polling.specs.Certificates.{cert_refusal}
use Rattle.rtc_peer_polling.specs.DtlsStages.{has_come}

-- a fingerprint by sha-256 of these bytes
abbrev sha_256 : List ℕ → Fingerprint
sha_256 bytes = record { hash_func = codes "sha-256"; bytes = bytes }

pub other_bytes_do_not_match : cert_refusal (Some (sha_256 (1 ∷ []))) true (sha_256 (2 ∷ []))
    ≡ Some (NoMatch (sha_256 (1 ∷ [])) (sha_256 (2 ∷ [])))
other_bytes_do_not_match = refl

pub same_bytes_match : cert_refusal (Some (sha_256 (1 ∷ []))) true (sha_256 (1 ∷ [])) ≡ None
same_bytes_match = refl

pub md5_is_unknown : (got : Fingerprint) → cert_refusal (Some (record { hash_func = codes "md5"; bytes = [] })) true got
    ≡ Some (UnknownHash (codes "md5"))
md5_is_unknown got = refl

-- nothing announced is refused also where nothing is to match
pub none_announced_is_refused : (verifies : Bool) (got : Fingerprint) → cert_refusal None verifies got ≡ Some NoneAnnounced
none_announced_is_refused verifies got = refl

pub unverified_is_taken : (announced got : Fingerprint) → cert_refusal (Some announced) false got ≡ None
unverified_is_taken announced got = refl

pub no_match_prints : (expected got : Fingerprint) → rtc_error_text (RemoteSdp (NoMatch expected got))
    ≡ codes "remote sdp: remote fingerprint no match"
unfolding rtc_error_text why_text
no_match_prints expected got = refl

pub md5_prints : rtc_error_text (RemoteSdp (UnknownHash (codes "md5"))) ≡ codes "remote sdp: unsupported fingerprint hash function: md5"
unfolding rtc_error_text why_text
md5_prints = refl

pub far_future_never_comes : has_come (2 ^ 64 - 1) (2 ^ 64 - 1) ≡ false
far_future_never_comes = refl

pub greatest_moment_has_come : has_come 250 250 ≡ true
greatest_moment_has_come = refl
