-- What refusals print.
use Rattle.std.specs.Prelude.{ℕ, List, ◌∷◌, ◌++◌, codes}
use Rattle.std.specs.Fmt.{decimal}
use Rattle.rtc_sdp_values.specs.declared.line_kind.LineKind.{LineKind}
use Rattle.rtc_sdp_values.specs.declared.line_kind.LineKind.TheVariants.{Audio, Video, Application, Unknown}
use Rattle.rtc_peer_rows.specs.declared.new_line.NewLine.{NewLine}
use Rattle.rtc_peer_rows.specs.declared.new_line.NewLine.TheVariants.{Count, NotMedia, NotChannel, NotOffered, OtherKind, OtherPlace}
use Rattle.rtc_peer_rows.specs.declared.why.Why.{Why}
use Rattle.rtc_peer_rows.specs.declared.why.Why.TheVariants.{
  NoLines,
  BothLite,
  NoCredentials,
  UnaskedRestart,
  NoFingerprint,
  SctpInitChanged,
  SctpInitMissing,
  MovedLine,
  PlaceTaken,
  AnswerRecycles,
  WrongNewLines,
  NoMatch,
  UnknownHash,
  NoneAnnounced,
}

unfoldable pub kind_name : LineKind → List ℕ
kind_name Audio = codes "Audio"
kind_name Video = codes "Video"
kind_name Application = codes "Application"
kind_name Unknown = codes "Unknown"

-- a line of this mid is at another place than it should be
abbrev pub moved_text : List ℕ → List ℕ
moved_text mid = codes "Changed order for m-line with mid: " ++ mid

-- what is wrong with the new lines of an answer
unfoldable pub new_line_text : NewLine → List ℕ
new_line_text (Count expected got) =
    codes "Differing m-line count in offer vs answer: " ++ (decimal expected ++ (codes " != " ++ decimal got))
new_line_text (NotMedia mid kind) = codes "Answer m-line for mid (" ++ (mid ++ (codes ") is not of media type: " ++ kind_name kind))
new_line_text (NotChannel mid kind) = codes "Answer m-line for mid (" ++ (mid ++ (codes ") is not a data channel: " ++ kind_name kind))
new_line_text (NotOffered mid) = codes "Mid in answer is not in offer: " ++ mid
new_line_text (OtherKind mid) = codes "Answer m-line for mid (" ++ (mid ++ codes ") is of another kind")
new_line_text (OtherPlace mid) = moved_text mid

-- why an offer, an answer or a certificate is refused; 0xC2 0xA7 is the section sign, U+00A7
unfoldable pub why_text : Why → List ℕ
why_text NoLines = codes "No m-lines in offer"
why_text BothLite = codes "Both peers being ICE-Lite not supported"
why_text NoCredentials = codes "missing a=ice-ufrag/pwd"
why_text (UnaskedRestart kept got) = codes "Ice restart in answer without one in the preceeding offer"
why_text NoFingerprint = codes "missing a=fingerprint"
why_text (SctpInitChanged kept got) = codes "Changed a=sctp-init for existing SCTP association"
why_text (SctpInitMissing kept) = codes "Missing a=sctp-init for established SNAP SCTP association"
why_text (MovedLine mid) = moved_text mid
why_text (PlaceTaken mid) = moved_text mid
why_text (AnswerRecycles mid) =
    codes "Answer recycles stopped m-line (not permitted per RFC 8829 " ++ (0xC2 ∷ 0xA7 ∷ codes "5.2.2): " ++ mid)
why_text (WrongNewLines wrong) = new_line_text wrong
why_text (NoMatch expected got) = codes "remote fingerprint no match"
why_text (UnknownHash name) = codes "unsupported fingerprint hash function: " ++ name
why_text NoneAnnounced = codes "no a=fingerprint before dtls"
