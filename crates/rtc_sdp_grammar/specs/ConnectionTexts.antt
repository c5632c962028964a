-- Lines of the attributes of a connection, as they are written.
use Rattle.std.specs.Prelude.{ℕ, List, ◌++◌, codes}
use Rattle.std.specs.Fmt.{decimal}
use Rattle.rtc_sdp_values.specs.declared.candidate.Candidate.{Candidate}
use Rattle.rtc_sdp_values.specs.declared.fingerprint.Fingerprint.{Fingerprint}
use Rattle.rtc_sdp_attributes.specs.AttributeTexts.{candidate_text}
use Rattle.rtc_sdp_attributes.specs.AttributeTexts.{fingerprint_text}

-- a=ice-ufrag:U (RFC 8839, section 5.4)
unfoldable pub ufrag_line : List ℕ → List ℕ
ufrag_line ufrag = codes "a=ice-ufrag:" ++ ufrag

-- a=ice-pwd:P (RFC 8839, section 5.4)
unfoldable pub password_line : List ℕ → List ℕ
password_line password = codes "a=ice-pwd:" ++ password

-- a=fingerprint:H X:X (RFC 8122, section 5)
unfoldable pub fingerprint_line : Fingerprint → List ℕ
fingerprint_line fingerprint = codes "a=fingerprint:" ++ fingerprint_text fingerprint

-- a=candidate:F C T P A N typ K (RFC 8839, section 5.1)
unfoldable pub candidate_line : Candidate → List ℕ
candidate_line candidate = codes "a=candidate:" ++ candidate_text candidate

-- a=max-message-size:N (RFC 8841, section 6)
unfoldable pub message_size_line : ℕ → List ℕ
message_size_line size = codes "a=max-message-size:" ++ decimal size

-- a=sctp-init:B (draft-hancke-tsvwg-snap)
unfoldable pub sctp_init_line : List ℕ → List ℕ
sctp_init_line chunk = codes "a=sctp-init:" ++ chunk
