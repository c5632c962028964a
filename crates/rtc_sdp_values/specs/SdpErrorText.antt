-- What faults of session descriptions print.
use Rattle.std.specs.Prelude.{ℕ, List, ◌++◌, codes}
use Rattle.std.specs.Fmt.{decimal}
use Rattle.rtc_sdp_values.specs.declared.inconsistent.Inconsistent.{Inconsistent as Cause}
use Rattle.rtc_sdp_values.specs.declared.inconsistent.Inconsistent.TheVariants.{
  NoGroup,
  ManyGroups,
  EmptyGroup,
  UnknownMid,
  LineNotInGroup,
  RepeatedMid,
}
use Rattle.rtc_sdp_values.specs.declared.sdp_error.SdpError.{SdpError}
use Rattle.rtc_sdp_values.specs.declared.sdp_error.SdpError.TheVariants.{Parse, Inconsistent, Alloc}

-- why a session description is inconsistent
unfoldable pub inconsistent_text : Cause → List ℕ
inconsistent_text NoGroup = codes "no BUNDLE group"
inconsistent_text ManyGroups = codes "several BUNDLE groups"
inconsistent_text EmptyGroup = codes "BUNDLE group is empty"
inconsistent_text UnknownMid = codes "BUNDLE names an unknown mid"
inconsistent_text LineNotInGroup = codes "line is not in the BUNDLE group"
inconsistent_text RepeatedMid = codes "mid is repeated"

-- why a session description is refused
unfoldable pub sdp_error_text : SdpError → List ℕ
sdp_error_text (Parse line) = codes "SDP parse error at line " ++ decimal line
sdp_error_text (Inconsistent cause) = inconsistent_text cause
sdp_error_text Alloc = codes "out of memory"
