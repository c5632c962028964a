-- What a session description says as a whole, and whether it is consistent.
use Rattle.std.specs.Prelude.{
  ℕ,
  Bool,
  true,
  false,
  not,
  ◌||◌,
  List,
  [],
  ◌∷◌,
  map,
  Option,
  Some,
  None,
  Result,
  Ok,
  Err,
  option_and_then,
  if◌then◌else◌,
}
use Rattle.std.specs.List.{list_all, flat_map}
use Rattle.std.specs.Option.{option_or}
use Rattle.rtc_wire_text.specs.Fields.{first}
use Rattle.rtc_sdp_values.specs.Mids.{is_among, are_distinct}
use Rattle.rtc_sdp_values.specs.declared.candidate.Candidate.{Candidate}
use Rattle.rtc_sdp_values.specs.declared.fingerprint.Fingerprint.{Fingerprint}
use Rattle.rtc_sdp_values.specs.declared.ice_creds.IceCreds.{IceCreds}
use Rattle.rtc_sdp_values.specs.declared.inconsistent.Inconsistent.{Inconsistent}
use Rattle.rtc_sdp_values.specs.declared.inconsistent.Inconsistent.TheVariants.{
  NoGroup,
  ManyGroups,
  EmptyGroup,
  UnknownMid,
  LineNotInGroup,
  RepeatedMid,
}
use Rattle.rtc_sdp_values.specs.declared.line_kind.LineKind.{LineKind}
use Rattle.rtc_sdp_values.specs.declared.line_kind.LineKind.TheVariants.{Audio, Video, Application, Unknown}
use Rattle.rtc_sdp_values.specs.declared.media_line.MediaLine.{MediaLine}
use Rattle.rtc_sdp_values.specs.declared.sdp.Sdp.{Sdp}
use Rattle.rtc_sdp_values.specs.declared.sdp_error.SdpError.{SdpError}
use Rattle.rtc_sdp_values.specs.declared.sdp_error.SdpError.TheVariants as error
use Rattle.rtc_sdp_values.specs.declared.setup.Setup.{Setup}

-- those of the session if there, else those of the first line that has them (RFC 8866, section 5.13)
abbrev pub creds_of : Sdp → Option IceCreds
creds_of sdp = option_or sdp.creds (first (λ line. line.creds) sdp.lines)

abbrev pub sdp_fingerprint : Sdp → Option Fingerprint
sdp_fingerprint sdp = option_or sdp.fingerprint (first (λ line. line.fingerprint) sdp.lines)

abbrev pub sdp_setup : Sdp → Option Setup
sdp_setup sdp = option_or sdp.setup (first (λ line. line.setup) sdp.lines)

abbrev pub is_application : LineKind → Bool
is_application Audio = false
is_application Video = false
is_application Application = true
is_application Unknown = false

-- the first m-line of data channels
abbrev pub application_line : List MediaLine → Option MediaLine
application_line lines = first (λ line. if is_application line.kind then Some line else None) lines

-- those of the first m-line of data channels
abbrev pub sdp_sctp_init : Sdp → Option (List ℕ)
sdp_sctp_init sdp = option_and_then (λ line. line.sctp_init) (application_line sdp.lines)

abbrev pub max_message_size_of : Sdp → Option ℕ
max_message_size_of sdp = option_and_then (λ line. line.max_message_size) (application_line sdp.lines)

-- the candidates of all lines, in order
abbrev pub candidates_of : Sdp → List Candidate
candidates_of sdp = flat_map (λ line. line.candidates) sdp.lines

-- ---- the BUNDLE group (RFC 8843, section 7.1)

abbrev pub mids_of : List MediaLine → List (List ℕ)
mids_of lines = map (λ line. line.mid) lines

-- each mid of the group is a line's
abbrev pub are_known : List (List ℕ) → List MediaLine → Bool
are_known group lines = list_all (λ mid. is_among (mids_of lines) mid) group

-- each line with a port is in the group
abbrev pub are_grouped : List (List ℕ) → List MediaLine → Bool
are_grouped group lines = list_all (λ line. line.disabled || is_among group line.mid) lines

abbrev pub is_none_of : List (List ℕ) → Bool
is_none_of [] = true
is_none_of (name ∷ rest) = false

-- the causes, each with whether it is there
abbrev pub group_causes : List (List ℕ) → List MediaLine → List (Bool × Inconsistent)
group_causes group lines =
    (is_none_of group, EmptyGroup)
    ∷ (not (are_known group lines), UnknownMid)
    ∷ (not (are_grouped group lines), LineNotInGroup)
    ∷ (not (are_distinct (mids_of lines)), RepeatedMid)
    ∷ []

-- the first cause that is there
abbrev pub first_cause : List (Bool × Inconsistent) → Option Inconsistent
first_cause causes = first (λ cause. if cause.0 then Some cause.1 else None) causes

-- there is one group
abbrev pub judge : List (List (List ℕ)) → List MediaLine → Option Inconsistent
judge [] lines = Some NoGroup
judge (group ∷ []) lines = first_cause (group_causes group lines)
judge (group ∷ other ∷ rest) lines = Some ManyGroups

-- why a session description is inconsistent, if it is
unfoldable pub inconsistency : Sdp → Option Inconsistent
inconsistency sdp = judge sdp.groups sdp.lines

-- the result for this cause
abbrev pub refusal : Option Inconsistent → Result (Unit {0}) SdpError
refusal None = Ok tt
refusal (Some why) = Err (error.Inconsistent why)
