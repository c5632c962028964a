-- What an offer of staged changes would lack.
use Rattle.std.specs.Prelude.{ℕ, Bool, not, if◌then◌else◌, List, ◌++◌, length, Option, Some, None}
use Rattle.std.specs.List.{list_any, filter_map}
use Rattle.rtc_sdp_values.specs.MediaKind.{same_kind}
use Rattle.rtc_sdp_values.specs.declared.line_row.LineRow.{LineRow}
use Rattle.rtc_sdp_values.specs.declared.media_kind.MediaKind.{MediaKind}
use Rattle.rtc_sdp_values.specs.declared.payload_row.PayloadRow.{PayloadRow}
use Rattle.rtc_sdp_codecs.specs.LineFormats.{payload_kind}
use Rattle.rtc_change.specs.declared.change.Change.{Change}
use Rattle.rtc_change.specs.declared.change.Change.TheVariants.{AddMedia, AddApp, AddChannel, Direction, IceRestart}
use Rattle.rtc_change.specs.PendingOffer.{added_rows}
use Rattle.rtc_peer_core.specs.MadeSdp.{is_stopped}

abbrev pub has_codec : List PayloadRow → MediaKind → Bool
has_codec rows kind = list_any (λ row. same_kind (payload_kind row) kind) rows

-- the mid of the media line that a change adds, if these rows have no codec for its kind
abbrev pub mid_without_codec : List PayloadRow → Change → Option (List ℕ)
mid_without_codec rows (AddMedia media) = if has_codec rows media.kind then None else Some media.mid
mid_without_codec rows (AddApp mid) = None
mid_without_codec rows (AddChannel id config) = None
mid_without_codec rows (Direction mid dir) = None
mid_without_codec rows (IceRestart creds keeps) = None

abbrev pub added_without_codec : List PayloadRow → List Change → List (List ℕ)
added_without_codec rows changes = filter_map (mid_without_codec rows) changes

abbrev pub has_live_row : List LineRow → Bool
has_live_row rows = list_any (λ row. not (is_stopped row)) rows

-- whether an offer has a live row, which its BUNDLE group then names (RFC 8843, section 7)
abbrev pub offers_live : List LineRow → List Change → Bool
offers_live rows changes = has_live_row (rows ++ added_rows (length rows) changes)
