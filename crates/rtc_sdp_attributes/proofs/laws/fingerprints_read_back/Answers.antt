use Rattle.rtc_sdp_attributes.proofs.FingerprintLemmas.{fingerprint_again, fingerprint_lacks}
use Rattle.rtc_sdp_attributes.proofs.laws.fingerprints_read_back.Goals as goal

pub returns : goal.returns
returns c = record { again = fingerprint_again; one_line = fingerprint_lacks }
