-- What the media part is given of each media line that an offer or an answer names.
use Rattle.std.specs.Prelude.{ℕ, ◌&&◌, not, Bool, true, false, List, [], ◌∷◌, ◌++◌, if◌then◌else◌, Option, Some, None, option_map}
use Rattle.std.specs.List.{flat_map}
use Rattle.std.specs.Option.{option_or}
use Rattle.std.specs.Str.{bytes_eq}
use Rattle.rtc_wire_text.specs.Fields.{first}
use Rattle.rtc_sdp_values.specs.Direction.{does_send}
use Rattle.rtc_sdp_values.specs.LineRow.{row_mid}
use Rattle.rtc_sdp_values.specs.declared.line_row.LineRow.{LineRow}
use Rattle.rtc_sdp_values.specs.declared.line_row.LineRow.TheVariants.{Media, App}
use Rattle.rtc_sdp_values.specs.declared.media_kind.MediaKind.{MediaKind}
use Rattle.rtc_sdp_values.specs.declared.media_kind.MediaKind.TheVariants.{Audio}
use Rattle.rtc_sdp_values.specs.declared.media_line.MediaLine.{MediaLine}
use Rattle.rtc_sdp_values.specs.declared.simulcast.Simulcast.{Simulcast}
use Rattle.rtc_sdp_codecs.specs.LineFormats.{matched_rows, shared_extensions}
use Rattle.rtc_parts.specs.declared.media_update.MediaUpdate.{MediaUpdate}
use Rattle.rtc_change.specs.declared.add_media.AddMedia.{AddMedia as AddedMedia}
use Rattle.rtc_change.specs.declared.change.Change.{Change}
use Rattle.rtc_change.specs.declared.change.Change.TheVariants.{AddMedia, AddApp, AddChannel, Direction as SetDirection, IceRestart}
use Rattle.rtc_peer_core.specs.declared.formats.Formats.{Formats}
use Rattle.rtc_peer_core.specs.declared.sending.Sending.{Sending}
use Rattle.rtc_peer_core.specs.MadeSdp.{is_stopped}
use Rattle.rtc_peer_core.specs.Sources.{Pair, pair_numbers, pair_count, next_pairs, after_pairs}
use Rattle.rtc_parts.specs.Draws.{Draws}

abbrev pub media_of_change : Change → Option AddedMedia
media_of_change (AddMedia media) = Some media
media_of_change (AddApp mid) = None
media_of_change (AddChannel id config) = None
media_of_change (SetDirection mid dir) = None
media_of_change (IceRestart creds keeps) = None

abbrev pub is_media_of : List ℕ → AddedMedia → Option AddedMedia
is_media_of mid media = if bytes_eq media.mid mid then Some media else None

abbrev pub change_of_mid : List ℕ → Change → Option AddedMedia
change_of_mid mid change = elim (media_of_change change) [
  | None ↦ None
  | Some media ↦ is_media_of mid media
]

-- the media line of a mid that changes add
abbrev pub added_media : List Change → List ℕ → Option AddedMedia
added_media changes mid = first (change_of_mid mid) changes

-- a line of a received offer, or a declared one, has its mid for all names, and no SSRCs yet
abbrev pub bare_sending : List ℕ → Sending
bare_sending mid = record {
  simulcast = None;
  msid = Some (record { stream_id = mid; track_id = mid });
  cname = Some mid;
  ssrcs = [];
}

-- What is sent on a line is what the media part has of it, or else what was staged with it. Layers that were staged are offered, and the
-- line has none until the other side names it (RFC 8853, section 5.3.3).
abbrev pub sending_of : Option MediaUpdate → Option AddedMedia → List ℕ → Sending
sending_of (Some update) added mid = record {
  simulcast = update.simulcast;
  msid = update.msid;
  cname = update.cname;
  ssrcs = update.ssrcs_tx;
}
sending_of None (Some media) mid = record {
  simulcast = None;
  msid = Some media.msid;
  cname = Some media.cname;
  ssrcs = media.ssrcs;
}
sending_of None None mid = bare_sending mid

-- what is sent on the line of a mid, by what a media part has of lines and by what was staged
abbrev pub line_sending : (List ℕ → Option MediaUpdate) → List Change → List ℕ → Sending
line_sending line changes mid = sending_of (line mid) (added_media changes mid) mid

-- layers as the other side sees them (RFC 8853, section 5.3)
abbrev pub inverted : Simulcast → Simulcast
inverted simulcast = record { send = simulcast.recv; recv = simulcast.send }

-- a line that has no layers takes the first ones that the other side names, and keeps them
abbrev pub layered : MediaLine → Sending → Sending
layered line sending = record sending { simulcast = option_or sending.simulcast (option_map inverted line.simulcast) }

abbrev pub has_none : List Pair → Bool
has_none [] = true
has_none (pair ∷ pairs) = false

abbrev pub row_kind : LineRow → MediaKind
row_kind (Media place mid kind dir stopped remote_created) = kind
row_kind (App place mid) = Audio

-- whether a row sends and has no SSRC yet
abbrev pub wants_sources : LineRow → Sending → Bool
wants_sources (Media place mid kind dir stopped remote_created) sending = does_send dir && has_none sending.ssrcs
wants_sources (App place mid) sending = false

-- whether a row is new at its place, by the row that stood there before
abbrev pub is_added : Option LineRow → LineRow → Bool
is_added None row = true
is_added (Some before) row = not (bytes_eq (row_mid before) (row_mid row))

-- the mid of the row whose place a row takes
abbrev pub replaced_mid : Option LineRow → LineRow → Option (List ℕ)
replaced_mid None row = None
replaced_mid (Some before) row = if bytes_eq (row_mid before) (row_mid row) then None else Some (row_mid before)

abbrev pub first_row : List LineRow → Option LineRow
first_row [] = None
first_row (row ∷ rows) = Some row

abbrev pub rows_behind : List LineRow → List LineRow
rows_behind [] = []
rows_behind (row ∷ rows) = rows

-- what the media part is given of a row: the row that was at its place before, the m-line, what is sent on it and the SSRCs that are drawn
-- for it. A new live row of an offer is announced. The line has the codecs and header extensions that both sides have, by the numbers of
-- the other side (RFC 3264, sections 5.1 and 6.1).
abbrev pub row_update : Formats → Bool → Option LineRow → LineRow → MediaLine → Sending → List Pair → MediaUpdate
row_update formats offer before row line sending drawn = record {
  row = row;
  removed = replaced_mid before row;
  announce = offer && (is_added before row && not (is_stopped row));
  payloads = matched_rows (row_kind row) formats.codecs.rows line.payloads;
  exts = shared_extensions formats.extensions.rows line.exts;
  simulcast = sending.simulcast;
  msid = sending.msid;
  cname = sending.cname;
  ssrcs_tx = sending.ssrcs ++ drawn;
  ssrcs_rx = line.ssrcs;
}

-- the m-line of data channels is no line of media
abbrev pub if_media : LineRow → MediaUpdate → List MediaUpdate
if_media (Media place mid kind dir stopped remote_created) update = update ∷ []
if_media (App place mid) update = []

module _ {N : Type 0} (draws : Draws N) (used : ℕ → Bool) where
  -- the SSRCs that are drawn for a row, one for each layer that is sent
  abbrev pub row_pairs : Sending → List ℕ → LineRow → N → List Pair
  row_pairs sending earlier row ids = elim (wants_sources row sending) [
    | true ↦ next_pairs draws used (row_kind row) earlier (pair_count sending.simulcast) ids
    | false ↦ []
  ]

  abbrev pub after_row : Sending → LineRow → N → N
  after_row sending row ids = elim (wants_sources row sending) [
    | true ↦ after_pairs draws used (row_kind row) (pair_count sending.simulcast) ids
    | false ↦ ids
  ]

-- the SSRCs are drawn for the lines in their order
module _ {N : Type 0} (draws : Draws N) (used : ℕ → Bool) (sends : List ℕ → Sending) where
  -- the updates of rows, with the rows that stood at their places before and the m-lines that name them
  abbrev pub row_updates : Formats → Bool → List LineRow → List LineRow → List MediaLine → List ℕ → N → List MediaUpdate
  row_updates formats offer before [] lines earlier ids = []
  row_updates formats offer before (row ∷ rows) [] earlier ids = []
  row_updates formats offer before (row ∷ rows) (line ∷ lines) earlier ids =
      if_media row (row_update formats offer (first_row before) row line (layered line (sends (row_mid row)))
      (row_pairs draws used (layered line (sends (row_mid row))) earlier row ids))
      ++ row_updates formats offer (rows_behind before) rows lines
      (earlier ++ flat_map pair_numbers (row_pairs draws used (layered line (sends (row_mid row))) earlier row ids))
      (after_row draws used (layered line (sends (row_mid row))) row ids)

  abbrev pub after_updates : List LineRow → List MediaLine → N → N
  after_updates [] lines ids = ids
  after_updates (row ∷ rows) [] ids = ids
  after_updates (row ∷ rows) (line ∷ lines) ids =
      after_updates rows lines (after_row draws used (layered line (sends (row_mid row))) row ids)
